-- Laws of views that agree on what a type asks for.
use Rattle.std.proofs.Common.{◌≡◌, ℕ, ◌+◌, ◌*◌, ◌/◌, ◌%◌, ◌-◌, Bool, true, false, cond, ◌||◌, eqb, leb, List, [], ◌++◌, length, replicate, refl, ap, ◌∙◌}
use Rattle.ioam_base.specs.Octets.{written}
use Rattle.ioam_data.specs.Kind.{has, words}
use Rattle.ioam_data.specs.Table.{table}
use Rattle.ioam_data.specs.View.{Seen}
use Rattle.ioam_data.specs.Written.{snapshot_of, element_of, narrow_face, narrow_id, seconds_of, fraction_of, delay_of, or_ones, or_wide_ones}
use Rattle.ioam_data.proofs.TableLaws.{Agree, octets_by-agree}
use Rattle.ioam_trace.specs.Filled.{answer_by, answer_of, filled, is_suited, octets_by}
use Rattle.ioam_trace.specs.Filling.{less_remaining}
use Rattle.ioam_trace.specs.Head.{kind_of, node_len_of, overflow_of, remaining_of}
use Rattle.ioam_trace.specs.declared.addition.Filled.{Filled}
use Rattle.ioam_trace.specs.declared.addition.Filled.TheVariants.{Added, Overflowed, AlreadyOver, Unsuited}
use Rattle.ioam_node_visit.specs.Seeing.{AreAlike, asks_data, asks_reading}

-- ---- what a type asks for

here : (b c : Bool) → b ≡ true → (b || c) ≡ true
here true c is = refl
here false c is = absurd (cc is)

there : (b c : Bool) → c ≡ true → (b || c) ≡ true
there true c is = refl
there false c is = is

same_if : {T : Type 0} (b : Bool) (x y none : T) → (b ≡ true → x ≡ y) → cond b x none ≡ cond b y none
same_if true x y none is = is refl
same_if false x y none is = refl

-- two views agree on what is read at a time
pub record AgreeOnReading (one other : Seen) : Type 0 where
  pub stamp : one.stamp ≡ other.stamp
  pub delay : one.delay ≡ other.delay
  pub queue : one.queue ≡ other.queue
  pub buffer : one.buffer ≡ other.buffer

-- and on a node's data
pub record AgreeOnData (one other : Seen) : Type 0 where
  pub short : one.short ≡ other.short
  pub wide : one.wide ≡ other.wide
  pub snapshot : one.snapshot ≡ other.snapshot

-- and on the packet and the node
pub record AgreeOnPacket (one other : Seen) : Type 0 where
  pub hops : one.hops ≡ other.hops
  pub id : one.id ≡ other.id
  pub inward : one.inward ≡ other.inward
  pub outward : one.outward ≡ other.outward

module _ (kind : ℕ) (a b : Seen) (packet : AgreeOnPacket a b) (reading : asks_reading kind ≡ true → AgreeOnReading a b) (held : asks_data kind ≡ true → AgreeOnData a b) where
  -- the last of the bits that ask for a node's data
  at_22 : has kind 22 ≡ true → AgreeOnData a b
  at_22 is = held (there (has kind 5) _ (there (has kind 10) _ is))

  -- a row of the table each
  rows : Agree table kind a b
  unfolding table
  rows =
      let r0 : has kind 0 ≡ true → a.hops * 16777216 + narrow_id a.id ≡ b.hops * 16777216 + narrow_id b.id = λ _. λ i. packet.hops i * 16777216 + narrow_id (packet.id i) in
      let r1 : has kind 1 ≡ true → narrow_face a.inward * 65536 + narrow_face a.outward ≡ narrow_face b.inward * 65536 + narrow_face b.outward =
      λ _. λ i. narrow_face (packet.inward i) * 65536 + narrow_face (packet.outward i) in
      let r2 : has kind 2 ≡ true → seconds_of a.stamp ≡ seconds_of b.stamp = λ is. ap seconds_of (reading (here (has kind 2) _ is)).stamp in
      let r3 : has kind 3 ≡ true → fraction_of a.stamp ≡ fraction_of b.stamp = λ is. ap fraction_of (reading (there (has kind 2) _ (here (has kind 3) _ is))).stamp in
      let r4 : has kind 4 ≡ true → delay_of a.delay ≡ delay_of b.delay = λ is. ap delay_of (reading (there (has kind 2) _ (there (has kind 3) _ (here (has kind 4) _ is)))).delay in
      let r5 : has kind 5 ≡ true → or_ones a.short ≡ or_ones b.short = λ is. ap or_ones (held (here (has kind 5) _ is)).short in
      let r6 : has kind 6 ≡ true → or_ones a.queue ≡ or_ones b.queue = λ is. ap or_ones (reading (there (has kind 2) _ (there (has kind 3) _ (there (has kind 4) _ (here (has kind 6) _ is))))).queue in
      let r8 : has kind 8 ≡ true → a.hops * 72057594037927936 + a.id ≡ b.hops * 72057594037927936 + b.id = λ _. λ i. packet.hops i * 72057594037927936 + packet.id i in
      let r9 : has kind 9 ≡ true → or_ones a.inward * 4294967296 + or_ones a.outward % 4294967296 ≡ or_ones b.inward * 4294967296 + or_ones b.outward % 4294967296 =
      λ _. λ i. or_ones (packet.inward i) * 4294967296 + or_ones (packet.outward i) % 4294967296 in
      let r10 : has kind 10 ≡ true → or_wide_ones a.wide ≡ or_wide_ones b.wide = λ is. ap or_wide_ones (held (there (has kind 5) _ (here (has kind 10) _ is))).wide in
      let r11 : has kind 11 ≡ true → or_ones a.buffer ≡ or_ones b.buffer = λ is. ap or_ones (reading (there (has kind 2) _ (there (has kind 3) _ (there (has kind 4) _ (there (has kind 6) _ is))))).buffer in
      (r0, (r1, (r2, (r3, (r4, (r5, (r6, ((λ _. refl), (r8, (r9, (r10, (r11, tt))))))))))))

  same_element : (node_len : ℕ) → element_of kind node_len a ≡ element_of kind node_len b
  unfolding element_of
  same_element node_len =
      let snapshot = same_if (has kind 22) (snapshot_of a.snapshot) (snapshot_of b.snapshot) [] (λ is. ap snapshot_of (at_22 is).snapshot) in
      λ i. octets_by-agree table kind a b rows i ++ (replicate (4 * (node_len - words kind)) 255 ++ snapshot i)

  pub alike : AreAlike kind a b
  alike = record {
    element = same_element;
    words = λ node_len. ap (λ n. node_len + n)
        (same_if (has kind 22) (length (snapshot_of a.snapshot) / 4) (length (snapshot_of b.snapshot) / 4) 0 (λ is. ap (λ s. length (snapshot_of s) / 4) (at_22 is).snapshot));
  }

-- ---- a trace is filled alike

module _ (octets : List ℕ) (a b : Seen) (are : AreAlike (kind_of octets) a b) where
  pub answer-alike : answer_of octets a ≡ answer_of octets b
  answer-alike = ap (λ n. answer_by (leb 8 (length octets)) (eqb (overflow_of octets) 1) (is_suited octets) (leb n (remaining_of octets)) n) (are.words (node_len_of octets))

  octets-alike : (answer : Filled) → octets_by octets a answer ≡ octets_by octets b answer
  octets-alike AlreadyOver = refl
  octets-alike Unsuited = refl
  octets-alike Overflowed = refl
  octets-alike (Added amount) = ap (λ e. written (less_remaining octets amount) (8 + 4 * (remaining_of octets - amount)) e) (are.element (node_len_of octets))

  pub filled-alike : filled octets a ≡ filled octets b
  unfolding filled
  filled-alike = octets-alike (answer_of octets a) ∙ ap (λ answer. octets_by octets b answer) answer-alike
