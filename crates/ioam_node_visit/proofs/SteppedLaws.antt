-- What a node leaves of a packet, as a function, is what it may leave place by place, and nothing else is.
use Rattle.std.proofs.Common.{◌≡◌, inl, inr, ℕ, zero, suc, ◌+◌, ◌-◌, ◌<◌, ◌≤◌, ◌⊎◌, ◌&&◌, Bool, true, false, cond, eqb, leb, List, [], ◌∷◌, ◌++◌, length, take, drop, set, slice_index, slice_range, refl, sym, ap, ◌∙◌, subst, arith, length-take, length-drop, get_or-take, get_or-drop}
use Rattle.std.specs.Prelude.{Contains, slice_index_or}
use Rattle.std.proofs.lemmas.List.{get_or_append_left, drop_at, ext_get_or, get_or-set_other, get_or-set_same, length-set}
use Rattle.ioam_base.specs.Octets.{u16_at, written}
use Rattle.ioam_base.proofs.WrittenLaws.{length-written, written-front, written-behind}
use Rattle.ioam_clock.specs.declared.sample.Sample.{Sample}
use Rattle.ioam_data.specs.View.{Seen}
use Rattle.ioam_ip.specs.Chain.{IsSound}
use Rattle.ioam_ip.specs.Findings.{is_ioam_type}
use Rattle.ioam_ip.specs.Hop.{has_hop, hop_end, hop_head, hop_options, hop_stepped}
use Rattle.ioam_ip.specs.Options.{Item}
use Rattle.ioam_ip.specs.Packet.{IsPacket}
use Rattle.ioam_ip.specs.Rewriting.{options_in, with_steps, item_stepped}
use Rattle.ioam_ip.proofs.SoundLaws.{After, after, part, facts_of, hop_options-stepped, zero_is, IsSound-lowered}
use Rattle.ioam_node.specs.declared.place.Place.{Place}
use Rattle.ioam_topo.specs.declared.domain.Domain.{Domain}
use Rattle.ioam_trace.specs.Filled.{answer_of, filled}
use Rattle.ioam_trace.specs.Filling.{Filling}
use Rattle.ioam_trace.proofs.FilledLaws.{Filling-filled, filled-Filling}
use Rattle.ioam_node_visit.specs.Met.{met_of}
use Rattle.ioam_node_visit.specs.Seeing.{view_of}
use Rattle.ioam_node_visit.specs.Step.{knows, trace_step, step_by, node_step}
use Rattle.ioam_node_visit.specs.Stepped.{trace_start, trace_end, Fills, LiesInTrace, Stepped}
use Rattle.ioam_node_visit.proofs.CountedLaws.{IsPacket-lowered, hops-stepped, options_lowered}
use Rattle.ioam_node_visit.proofs.PlacesLaws.{contains-here, contains-there, contains-none, contains-map, index_behind, written_in, written_same, range_index, range_rest, Lies, lies-in, lies_same, body_stands}
use Rattle.ioam_node_visit.proofs.StepLaws.{by_bits, length-step}
use Rattle.ioam_node_visit.proofs.TestsLaws.{false_is, false_le, true_is, true_le}

module _ (domain : Domain) (readings : List (List Sample)) (place : Place) (time hops : ℕ) where
  abbrev step : ℕ → List ℕ → List ℕ
  step = node_step domain readings place time hops

  abbrev view : ℕ → Seen
  view space = view_of domain readings place time hops space

  abbrev keeps : (kind : ℕ) (body : List ℕ) → length (step kind body) ≡ length body
  keeps = length-step domain readings place time hops

  abbrev Filled_here : Item → Type 0
  Filled_here x = Fills domain place.node.0 x

  abbrev filling : Item → List ℕ
  filling x = filled (drop 2 x.body) (view (u16_at x.body 2))

  -- ---- one option: its trace is filled, or all of it stays

  abbrev Steps : Item → Type 0
  Steps x = (Filled_here x × (step x.kind x.body ≡ take 2 x.body ++ filling x)) ⊎ ((Filled_here x → ⊥) × (step x.kind x.body ≡ x.body))

  module _ (x : Item) where
    abbrev by_met : Bool → Bool → Bool → Bool → Bool → List ℕ
    by_met a b t k d = step_by domain readings place time hops (by_bits a b t k d) x.body

    met_is : (a b t k d : Bool) → is_ioam_type x.kind ≡ a → leb 2 (length x.body) ≡ b → eqb (slice_index x.body 1) 0 ≡ t
        → eqb x.kind 0x31 ≡ k → eqb (slice_index x.body 1) 4 ≡ d → step x.kind x.body ≡ by_met a b t k d
    unfolding node_step met_of
    met_is a b t k d ea eb et ek ed = λ i. by_met (ea i) (eb i) (et i) (ek i) (ed i)

    trace_is : (l n : Bool) → leb 10 (length x.body) ≡ l → knows domain place.node.0 (u16_at x.body 2) ≡ n
        → trace_step domain readings place time hops x.body ≡ cond (l && n) (take 2 x.body ++ filling x) x.body
    unfolding trace_step
    trace_is l n el en = λ i. cond (el i && en i) (take 2 x.body ++ filling x) x.body

    by_tests : (a b t k d l n : Bool) → is_ioam_type x.kind ≡ a → leb 2 (length x.body) ≡ b → eqb (slice_index x.body 1) 0 ≡ t
        → eqb x.kind 0x31 ≡ k → eqb (slice_index x.body 1) 4 ≡ d → leb 10 (length x.body) ≡ l
        → knows domain place.node.0 (u16_at x.body 2) ≡ n → Steps x
    by_tests false b t k d l n ea eb et ek ed el en =
        inr ((λ fills. absurd (cc (sym ea ∙ ap is_ioam_type fills.type))), met_is false b t k d ea eb et ek ed)
    by_tests true false t k d l n ea eb et ek ed el en =
        let short = false_le 2 (length x.body) eb in
        inr ((λ fills. let long = fills.header in omega (arith, short, long)), met_is true false t k d ea eb et ek ed)
    by_tests true true false k true l n ea eb et ek ed el en =
        inr ((λ fills. false_is (slice_index x.body 1) 0 et fills.trace), met_is true true false k true ea eb et ek ed)
    by_tests true true false k false l n ea eb et ek ed el en =
        inr ((λ fills. false_is (slice_index x.body 1) 0 et fills.trace), met_is true true false k false ea eb et ek ed)
    by_tests true true true false d l n ea eb et ek ed el en =
        inr ((λ fills. false_is x.kind 0x31 ek fills.type), met_is true true true false d ea eb et ek ed)
    by_tests true true true true d false n ea eb et ek ed el en =
        let short = false_le 10 (length x.body) el in
        inr ((λ fills. let long = fills.header in omega (arith, short, long)), met_is true true true true d ea eb et ek ed ∙ trace_is false n el en)
    by_tests true true true true d true false ea eb et ek ed el en =
        inr ((λ fills. absurd (cc (sym en ∙ fills.known))), met_is true true true true d ea eb et ek ed ∙ trace_is true false el en)
    by_tests true true true true d true true ea eb et ek ed el en =
        inl (
          record { type = true_is x.kind 0x31 ek; trace = true_is (slice_index x.body 1) 0 et; header = true_le 10 (length x.body) el; known = en },
          met_is true true true true d ea eb et ek ed ∙ trace_is true true el en,
        )

  steps : (x : Item) → Steps x
  steps x =
      by_tests x (is_ioam_type x.kind) (leb 2 (length x.body)) (eqb (slice_index x.body 1) 0) (eqb x.kind 0x31) (eqb (slice_index x.body 1) 4)
      (leb 10 (length x.body)) (knows domain place.node.0 (u16_at x.body 2)) refl refl refl refl refl refl refl

  -- ---- octets of a header that are in no trace that is filled stay

  abbrev Out : Item → ℕ → Type 0
  Out x i = Filled_here x → trace_start x ≤ 40 + i → 40 + i < trace_end x → ⊥

  -- the two octets in front of the trace
  two_stay : (x : Item) (head : List ℕ) (i : ℕ) → Filled_here x → step x.kind x.body ≡ take 2 x.body ++ filling x
      → x.at + 2 + length x.body ≤ length head → take (length x.body) (drop (x.at + 2) head) ≡ x.body → x.at + 2 ≤ i → i < x.at + 4
      → slice_index (written head (x.at + 2) (step x.kind x.body)) i ≡ slice_index head i
  two_stay x head i fills is within body after below =
      let n = length x.body in
      let k = i - (x.at + 2) in
      let ten : 10 ≤ n = fills.header in
      let place : i ≡ x.at + 2 + k = omega arith in
      let size : length (step x.kind x.body) ≡ n = keeps x.kind x.body in
      let two : length (take 2 x.body) ≡ 2 = omega (arith, length-take 2 x.body, ten) in
      ap (λ m. slice_index (written head (x.at + 2) (step x.kind x.body)) m) place
      ∙ written_in head (step x.kind x.body) (x.at + 2) k (omega (arith, within)) (omega (arith, size, ten))
      ∙ ap (λ ys. slice_index ys k) is
      ∙ get_or_append_left (take 2 x.body) (filling x) 0 k (omega (arith, two))
      ∙ get_or-take 2 x.body k 0 (omega arith)
      ∙ sym (ap (λ ys. slice_index ys k) body)
      ∙ get_or-take n (drop (x.at + 2) head) k 0 (omega (arith, ten))
      ∙ get_or-drop (x.at + 2) head k 0
      ∙ sym (ap (λ m. slice_index head m) place)

  filled_stays : (x : Item) (head : List ℕ) (i : ℕ) → Filled_here x → step x.kind x.body ≡ take 2 x.body ++ filling x
      → x.at + 2 + length x.body ≤ length head → take (length x.body) (drop (x.at + 2) head) ≡ x.body → Out x i
      → (front two here : Bool) → leb (x.at + 2) i ≡ front → leb (x.at + 4) i ≡ two → leb (x.at + 2 + length x.body) i ≡ here
      → slice_index (written head (x.at + 2) (step x.kind x.body)) i ≡ slice_index head i
  filled_stays x head i fills is within body out false two here ef et eh =
      written-front head (step x.kind x.body) (x.at + 2) i (false_le (x.at + 2) i ef) (omega (arith, within))
  filled_stays x head i fills is within body out true false here ef et eh =
      two_stay x head i fills is within body (true_le (x.at + 2) i ef) (false_le (x.at + 4) i et)
  filled_stays x head i fills is within body out true true false ef et eh =
      let after = true_le (x.at + 4) i et in
      let below = false_le (x.at + 2 + length x.body) i eh in
      absurd (out fills (omega (arith, after)) (omega (arith, below)))
  filled_stays x head i fills is within body out true true true ef et eh =
      let size : length (step x.kind x.body) ≡ length x.body = keeps x.kind x.body in
      index_behind (written head (x.at + 2) (step x.kind x.body)) head (x.at + 2 + length x.body) i
      (written-behind head (step x.kind x.body) (x.at + 2) (x.at + 2 + length x.body) (omega (arith, size)) (omega (arith, within)))
      (true_le (x.at + 2 + length x.body) i eh)

  one_same : (x : Item) (head : List ℕ) (i : ℕ) → x.at + 2 + length x.body ≤ length head → take (length x.body) (drop (x.at + 2) head) ≡ x.body → Out x i
      → slice_index (written head (x.at + 2) (step x.kind x.body)) i ≡ slice_index head i
  one_same x head i within body out = by_case (steps x) where
    by_case : Steps x → slice_index (written head (x.at + 2) (step x.kind x.body)) i ≡ slice_index head i
    by_case (inl some) =
        filled_stays x head i some.0 some.1 within body out (leb (x.at + 2) i) (leb (x.at + 4) i) (leb (x.at + 2 + length x.body) i) refl refl refl
    by_case (inr none) =
        ap (λ ys. slice_index (written head (x.at + 2) ys) i) none.1 ∙ ap (λ ys. slice_index ys i) (written_same head x.body (x.at + 2) body)

  all_same : (xs : List Item) (head : List ℕ) (from i : ℕ) → Lies head from xs → ((x : Item) → Contains xs x → Out x i)
      → slice_index (with_steps step head xs) i ≡ slice_index head i
  all_same [] head from i lies out = refl
  all_same (x ∷ xs) head from i lies out =
      let end = x.at + 2 + length x.body in
      let part = step x.kind x.body in
      let size : length part ≡ length x.body = keeps x.kind x.body in
      let within : end ≤ length head = lies.1 in
      let now = written head (x.at + 2) part in
      let long : length now ≡ length head = length-written head part (x.at + 2) (omega (arith, size, within)) in
      let behind : drop end now ≡ drop end head = written-behind head part (x.at + 2) end (omega (arith, size)) (omega (arith, within)) in
      all_same xs now end i (lies_same head now end xs (sym long) (sym behind) lies.3) (λ y there. out y (contains-there x y xs there))
      ∙ one_same x head i within lies.2 (out x (contains-here x xs))

  -- ---- a packet

  module _ (packet : List ℕ) (sound : IsSound packet) (is : IsPacket packet) where
    abbrev new : List ℕ
    new = hop_stepped step packet

    facts_there : has_hop packet ≡ true → After step keeps packet
    facts_there there =
        facts_of step keeps packet sound.heads (record { upper = sound.upper; at = sound.at; chain = sound.chain }) (zero_is (slice_index packet 6) there)

    long-stepped : length new ≡ length packet
    long-stepped = by_test (has_hop packet) refl where
      by_test : (b : Bool) → has_hop packet ≡ b → length (cond b (after step keeps packet) packet) ≡ length packet
      by_test true there = (facts_there there).long
      by_test false there = refl

    -- in the header
    within_same : (k : ℕ) → has_hop packet ≡ true → k < length (part step keeps packet) → (LiesInTrace domain place.node.0 packet (40 + k) → ⊥)
        → slice_index (after step keeps packet) (40 + k) ≡ slice_index packet (40 + k)
    within_same k there below out =
        let known = facts_there there in
        let head = hop_head packet in
        let xs = options_in head in
        let forty : 40 ≤ length packet = is.header_there in
        let long : length (part step keeps packet) ≡ length head = known.all.long in
        let options : hop_options packet ≡ xs = ap (λ b. cond b xs []) there in
        let outside : (x : Item) → Contains xs x → Out x k =
        λ x among fills from to. out (record {
          option = x;
          among = subst (λ os. Contains os x) (sym options) among;
          fills = fills;
          from = from;
          below = to;
        }) in
        written_in packet (part step keeps packet) 40 k forty below
        ∙ all_same xs head 2 k (lies-in head) outside
        ∙ get_or-take (hop_end packet - 40) (drop 40 packet) k 0 (omega (arith, below, long, length-take (hop_end packet - 40) (drop 40 packet)))
        ∙ get_or-drop 40 packet k 0

    places_same : (i : ℕ) → has_hop packet ≡ true → (LiesInTrace domain place.node.0 packet i → ⊥) → (front inside : Bool)
        → leb 40 i ≡ front → leb (hop_end packet) i ≡ inside → slice_index (after step keeps packet) i ≡ slice_index packet i
    places_same i there out false inside ef ei = written-front packet (part step keeps packet) 40 i (false_le 40 i ef) is.header_there
    places_same i there out true true ef ei =
        index_behind (after step keeps packet) packet (hop_end packet) i (facts_there there).rest (true_le (hop_end packet) i ei)
    places_same i there out true false ef ei =
        let known = facts_there there in
        let here : 40 + (i - 40) ≡ i = let from = true_le 40 i ef in omega (arith, from) in
        let below = false_le (hop_end packet) i ei in
        let long = known.all.long in
        let fits = known.within in
        let size : length (hop_head packet) ≡ hop_end packet - 40 =
        omega (arith, fits, length-take (hop_end packet - 40) (drop 40 packet), length-drop 40 packet) in
        sym (ap (λ n. slice_index (after step keeps packet) n) here)
        ∙ within_same (i - 40) there (omega (arith, below, long, size, here)) (subst (λ n. LiesInTrace domain place.node.0 packet n → ⊥) (sym here) out)
        ∙ ap (λ n. slice_index packet n) here

    same-stepped : (i : ℕ) → (LiesInTrace domain place.node.0 packet i → ⊥) → slice_index new i ≡ slice_index packet i
    same-stepped i out = by_test (has_hop packet) refl where
      by_test : (b : Bool) → has_hop packet ≡ b → slice_index (cond b (after step keeps packet) packet) i ≡ slice_index packet i
      by_test true there = places_same i there out (leb 40 i) (leb (hop_end packet) i) refl refl
      by_test false there = refl

    -- each trace that is filled
    trace-stepped : (x : Item) → Contains (hop_options packet) x → Filled_here x → slice_range new (trace_start x) (trace_end x) ≡ filling x
    trace-stepped x among fills =
        let now = item_stepped step x in
        let ten : 10 ≤ length x.body = fills.header in
        let size : length (step x.kind x.body) ≡ length x.body = keeps x.kind x.body in
        let there : Contains (hop_options new) now =
        subst (λ os. Contains os now) (sym (hop_options-stepped step keeps packet sound)) (contains-map (item_stepped step) (hop_options packet) x among) in
        let two : length (take 2 x.body) ≡ 2 = omega (arith, length-take 2 x.body, ten) in
        let start : 42 + x.at + 2 ≡ trace_start x = omega arith in
        let end : 42 + x.at + length (step x.kind x.body) ≡ trace_end x = omega (arith, size) in
        (λ i. slice_range new (sym start i) (sym end i))
        ∙ sym (range_rest new (42 + x.at) (42 + x.at + length (step x.kind x.body)) (omega (arith, size, ten)))
        ∙ ap (drop 2) (body_stands new now there)
        ∙ by_case (steps x) two
      where
        by_case : Steps x → length (take 2 x.body) ≡ 2 → drop 2 (step x.kind x.body) ≡ filling x
        by_case (inl some) two = ap (drop 2) some.1 ∙ drop_at (take 2 x.body) (filling x) 2 two
        by_case (inr none) two = absurd (none.0 fills)

  -- a packet of which one with another hop limit is changed
  stepped_from : (packet lower : List ℕ) (limit : ℕ) → IsSound lower → IsPacket lower → length lower ≡ length packet → slice_index lower 7 ≡ limit
      → hop_options lower ≡ hop_options packet → ((i : ℕ) → (i ≡ 7 → ⊥) → slice_index lower i ≡ slice_index packet i)
      → Stepped domain readings place time hops limit packet (hop_stepped step lower)
  stepped_from packet lower limit sound is long seven options others = record {
    long = long-stepped lower sound is ∙ long;
    limit_is = hops-stepped step keeps lower is ∙ seven;
    same = λ at not out.
        same-stepped lower sound is at (λ lies. out (record {
          option = lies.option;
          among = subst (λ os. Contains os lies.option) options lies.among;
          fills = lies.fills;
          from = lies.from;
          below = lies.below;
        }))
        ∙ others at not;
    filled = λ x among fills.
        let there : Contains (hop_options lower) x = subst (λ os. Contains os x) (sym options) among in
        let old = drop 2 x.body in
        let seen = view (u16_at x.body 2) in
        (answer_of old seen, subst (λ ys. Filling old seen ys (answer_of old seen)) (sym (trace-stepped lower sound is x there fills)) (Filling-filled old seen));
  }

  -- the hop limit stays
  pub stepped-is : (packet : List ℕ) → IsSound packet → IsPacket packet
      → Stepped domain readings place time hops (slice_index packet 7) packet (hop_stepped step packet)
  stepped-is packet sound is = stepped_from packet packet (slice_index packet 7) sound is refl refl refl (λ i not. refl)

  -- it is another
  pub stepped-lowered : (packet : List ℕ) (limit : ℕ) → IsSound packet → IsPacket packet
      → Stepped domain readings place time hops limit packet (hop_stepped step (set packet 7 limit))
  stepped-lowered packet limit sound is =
      let forty : 40 ≤ length packet = is.header_there in
      stepped_from packet (set packet 7 limit) limit (IsSound-lowered packet limit sound) (IsPacket-lowered packet limit is) (length-set packet 7 limit)
      (get_or-set_same packet 7 limit 0 (omega (arith, forty))) (options_lowered packet limit)
      (λ i not. get_or-set_other packet 7 i limit 0 not)

  -- ---- nothing else is left

  module _ (packet : List ℕ) (i : ℕ) where
    -- a place lies in a trace that is filled, or in none
    abbrev Found : List Item → Type 0
    Found xs = ((x : Item) × Contains xs x × Filled_here x × (trace_start x ≤ i) × (i < trace_end x))
        ⊎ ((x : Item) → Contains xs x → Filled_here x → trace_start x ≤ i → i < trace_end x → ⊥)

    abbrev Here : Item → Type 0
    Here x = (Filled_here x × (trace_start x ≤ i) × (i < trace_end x)) ⊎ (Filled_here x → trace_start x ≤ i → i < trace_end x → ⊥)

    here : (x : Item) → Here x
    here x = by_tests (steps x) (leb (trace_start x) i) (leb (trace_end x) i) refl refl where
      by_tests : Steps x → (a b : Bool) → leb (trace_start x) i ≡ a → leb (trace_end x) i ≡ b → Here x
      by_tests (inr none) a b ea eb = inr (λ fills from to. none.0 fills)
      by_tests (inl some) false b ea eb = let short = false_le (trace_start x) i ea in inr (λ fills from to. omega (arith, short, from))
      by_tests (inl some) true true ea eb = let far = true_le (trace_end x) i eb in inr (λ fills from to. omega (arith, far, to))
      by_tests (inl some) true false ea eb = inl (some.0, true_le (trace_start x) i ea, false_le (trace_end x) i eb)

    none_of : (x : Item) (xs : List Item) → (Filled_here x → trace_start x ≤ i → i < trace_end x → ⊥)
        → ((y : Item) → Contains xs y → Filled_here y → trace_start y ≤ i → i < trace_end y → ⊥)
        → (k : ℕ) (y : Item) → k < length (x ∷ xs) → slice_index_or (x ∷ xs) k y ≡ y → Filled_here y → trace_start y ≤ i → i < trace_end y → ⊥
    none_of x xs first rest zero y below same = subst (λ z. Filled_here z → trace_start z ≤ i → i < trace_end z → ⊥) same first
    none_of x xs first rest (suc k) y below same = rest y (k, omega (arith, below), same)

    found : (xs : List Item) → Found xs
    found [] = inr (λ x there fills from to. contains-none x there)
    found (x ∷ xs) = by_case (here x) (found xs) where
      by_case : Here x → Found xs → Found (x ∷ xs)
      by_case (inl first) rest = inl (x, contains-here x xs, first.0, first.1, first.2)
      by_case (inr first) (inl rest) = inl (rest.0, contains-there x rest.0 xs rest.1, rest.2, rest.3, rest.4)
      by_case (inr first) (inr rest) = inr (λ y there. none_of x xs first rest there.0 y there.1 there.2)

  -- filled once, a trace is what it is as a function
  trace_only : (limit : ℕ) (packet new : List ℕ) → Stepped domain readings place time hops limit packet new
      → (x : Item) → Contains (hop_options packet) x → Filled_here x → slice_range new (trace_start x) (trace_end x) ≡ filling x
  trace_only limit packet new stepped x among fills =
      let given = stepped.filled x among fills in
      filled-Filling (drop 2 x.body) (view (u16_at x.body 2)) (slice_range new (trace_start x) (trace_end x)) given.0 given.1

  place_only : (limit : ℕ) (packet a b : List ℕ) → Stepped domain readings place time hops limit packet a → Stepped domain readings place time hops limit packet b
      → (i : ℕ) (seven : Bool) → eqb i 7 ≡ seven → Found packet i (hop_options packet) → slice_index a i ≡ slice_index b i
  place_only limit packet a b one two i true is found =
      let here : i ≡ 7 = true_is i 7 is in
      ap (slice_index a) here ∙ one.limit_is ∙ sym two.limit_is ∙ sym (ap (slice_index b) here)
  place_only limit packet a b one two i false is (inl some) =
      let x = some.0 in
      sym (range_index a (trace_start x) (trace_end x) i some.3 some.4)
      ∙ ap (λ ys. slice_index ys (i - trace_start x)) (trace_only limit packet a one x some.1 some.2 ∙ sym (trace_only limit packet b two x some.1 some.2))
      ∙ range_index b (trace_start x) (trace_end x) i some.3 some.4
  place_only limit packet a b one two i false is (inr none) =
      let out : LiesInTrace domain place.node.0 packet i → ⊥ = λ lies. none lies.option lies.among lies.fills lies.from lies.below in
      one.same i (false_is i 7 is) out ∙ sym (two.same i (false_is i 7 is) out)

  pub stepped-only : (limit : ℕ) (packet a b : List ℕ) → Stepped domain readings place time hops limit packet a → Stepped domain readings place time hops limit packet b → a ≡ b
  stepped-only limit packet a b one two =
      ext_get_or 0 a b (one.long ∙ sym two.long) (λ i below. place_only limit packet a b one two i (eqb i 7) refl (found packet i (hop_options packet)))
