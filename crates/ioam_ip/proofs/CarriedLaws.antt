-- A packet that carries IOAM still does with another hop limit, and when the data of options of its outer Hop-by-Hop
-- header is replaced; and no packet comes to carry it so.
use Rattle.std.proofs.Common.{◌≡◌, ◌≢◌, ℕ, ◌+◌, ◌-◌, ◌*◌, ◌≤◌, Bool, true, false, cond, eqb, IsTrue, List, [], ◌∷◌, length, take, drop, set, map, slice_index, refl, sym, ap, ◌∙◌, subst, arith}
use Rattle.std.specs.List.{All, Any}
use Rattle.std.proofs.lemmas.List.{drop-set-lt, length-set, get_or-set_other}
use Rattle.std.proofs.lemmas.List.Elements.{All-nil, All-cons}
use Rattle.std.proofs.lemmas.Bool.Decides.{nat_tests}
use Rattle.ioam_base.specs.Leads.{Leads}
use Rattle.ioam_ip.specs.Options.{Item, AreOptions}
use Rattle.ioam_ip.specs.Findings.{has_ioam}
use Rattle.ioam_ip.specs.Chain.{CanPass, head_at, behind, IsSound}
use Rattle.ioam_ip.specs.ChainOptions.{octets_of, HasIoam, CarriesIoam}
use Rattle.ioam_ip.specs.HeadsLeft.{AreHeads}
use Rattle.ioam_ip.specs.declared.chain.HeadSpot.{HeadSpot}
use Rattle.ioam_ip.specs.declared.chain.Head.{Head}
use Rattle.ioam_ip.specs.Rewriting.{options_in, item_stepped}
use Rattle.ioam_ip.specs.Hop.{has_hop, hop_end, hop_head, hop_stepped}
use Rattle.ioam_ip.proofs.ChainLaws.{Chain-unique}
use Rattle.ioam_ip.proofs.NextLaws.{suffix_same}
use Rattle.ioam_ip.proofs.OptionsLeftLaws.{all_from}
use Rattle.ioam_ip.proofs.CarryLaws.{heads_behind_spot}
use Rattle.ioam_ip.proofs.SteppedLaws.{has_ioam-stepped}
use Rattle.ioam_ip.proofs.SoundLaws.{first_spot, zero_is, heads_behind, heads-stepped, After, facts_of, part, after}

-- what some header has, some header has in another packet too
turned : (P Q R : Head → Type 0) (hs : List Head) → ((head : Head) → R head → P head → Q head) → All R hs → Any P hs → Any Q hs
turned P Q R hs turn all any = (any.0, any.1, any.2, any.3, turn any.1 (subst R any.3 (all any.0 any.1 any.2)) any.4)

has_same : (p q : List ℕ) (head : Head) → octets_of q head ≡ octets_of p head → HasIoam p head → HasIoam q head
has_same p q head same has = record {
  holds_options = has.holds_options;
  options = has.options;
  are_options = subst (λ octets. AreOptions octets has.options) (sym same) has.are_options;
  ioam = has.ioam;
}

-- a header from a place on at which two packets are the same
octets_same : (p q : List ℕ) (from : ℕ) (head : Head) → drop from q ≡ drop from p → from ≤ head.range.start → octets_of q head ≡ octets_of p head
octets_same p q from head same far = ap (λ xs. take (head.range.end - head.range.start) xs) (suffix_same q p from head.range.start far same)

-- the same octets stand behind the outer header
pub carries_behind : (p q : List ℕ) → length q ≡ length p → slice_index q 6 ≡ slice_index p 6 → drop 40 q ≡ drop 40 p → CarriesIoam p → CarriesIoam q
carries_behind p q long value same carries =
    let are = heads_behind p q carries.heads long value same (record { upper = carries.upper; at = carries.at; chain = carries.chain }) in
    record {
      heads = carries.heads;
      upper = are.upper;
      at = are.at;
      chain = are.chain;
      has_ioam = turned (HasIoam p) (HasIoam q) (λ (head : Head). 40 ≤ head.range.start) carries.heads
          (λ head far has. has_same p q head (octets_same p q 40 head same far) has)
          (heads_behind_spot p (first_spot (slice_index p 6)) carries.heads carries.chain.last carries.chain.reaches) carries.has_ioam;
    }

-- another hop limit changes nothing of it
module _ (p : List ℕ) (limit : ℕ) where
  value : slice_index (set p 7 limit) 6 ≡ slice_index p 6
  value = get_or-set_other p 7 6 limit 0 (omega arith)

  rest : drop 40 (set p 7 limit) ≡ drop 40 p
  rest = drop-set-lt 40 p 7 limit (omega arith)

  pub CarriesIoam-lowered : CarriesIoam p → CarriesIoam (set p 7 limit)
  CarriesIoam-lowered carries = carries_behind p (set p 7 limit) (length-set p 7 limit) value rest carries

  pub CarriesIoam-raised : CarriesIoam (set p 7 limit) → CarriesIoam p
  CarriesIoam-raised carries = carries_behind (set p 7 limit) p (sym (length-set p 7 limit)) (sym value) (sym rest) carries

-- where the headers behind the outer one stand: the Hop-by-Hop header first, and the others behind it
record Placed (p : List ℕ) (head : Head) : Type 0 where
  hop : head.range.start ≡ 40 → head.range.end ≡ hop_end p
  other : head.range.start ≢ 40 → hop_end p ≤ head.range.start

placed : (p : List ℕ) (hs : List Head) (last : HeadSpot) → Leads (CanPass p) (head_at p) (behind p) (first_spot 0) hs last → All (Placed p) hs
placed p [] last here = All-nil (Placed p)
placed p (h ∷ hs) last leads =
    let others = heads_behind_spot p (behind p (first_spot 0)) hs last leads.2 in
    let first : Placed p (head_at p (first_spot 0)) = record { hop = λ is. refl; other = λ not. absurd (not refl) } in
    All-cons (Placed p) h hs (subst (Placed p) (sym leads.1) first)
    (λ k d below. let far = others k d below in record { hop = λ is. absurd (omega (arith, is, far)); other = λ not. far })

start_is : (n : ℕ) → eqb n 40 ≡ true → n ≡ 40
start_is n is = grind (arith, nat_tests)

start_other : (n : ℕ) → eqb n 40 ≡ false → n ≢ 40
start_other n is = λ same. grind (arith, nat_tests)

module _ (step : ℕ → List ℕ → List ℕ) (keeps : (kind : ℕ) (body : List ℕ) → length (step kind body) ≡ length body) (p : List ℕ) where
  module _ (known : After step keeps p) (head : Head) (stands : Placed p head) where
    abbrev old : List ℕ
    old = hop_head p

    abbrev os : List Item
    os = options_in old

    abbrev q : List ℕ
    q = after step keeps p

    old_is : head.range.start ≡ 40 → octets_of p head ≡ old
    old_is is = (λ i. take (stands.hop is i - is i) (drop (is i) p))

    new_is : head.range.start ≡ 40 → octets_of q head ≡ part step keeps p
    new_is is = (λ i. take (stands.hop is i - is i) (drop (is i) q))
        ∙ ap (λ n. take ((40 + (n + 1) * 8) - 40) (drop 40 q)) (sym known.said) ∙ known.head_is

    others_same : head.range.start ≢ 40 → octets_of q head ≡ octets_of p head
    others_same not = octets_same p q (hop_end p) head known.rest (stands.other not)

    has_after : HasIoam p head → HasIoam q head
    has_after has = by_test (eqb head.range.start 40) refl where
      by_test : (b : Bool) → eqb head.range.start 40 ≡ b → HasIoam q head
      by_test true test =
          let is : head.range.start ≡ 40 = start_is head.range.start test in
          let was : AreOptions old has.options = subst (λ octets. AreOptions octets has.options) (old_is is) has.are_options in
          let same : os ≡ has.options = all_from old has.options was in
          record {
            holds_options = has.holds_options;
            options = map (item_stepped step) os;
            are_options = subst (λ octets. AreOptions octets (map (item_stepped step) os)) (sym (new_is is)) known.all.options;
            ioam = subst IsTrue (ap has_ioam (sym same) ∙ sym (has_ioam-stepped step keeps os)) has.ioam;
          }
      by_test false test = has_same p q head (others_same (start_other head.range.start test)) has

    had_before : HasIoam q head → HasIoam p head
    had_before has = by_test (eqb head.range.start 40) refl where
      by_test : (b : Bool) → eqb head.range.start 40 ≡ b → HasIoam p head
      by_test true test =
          let is : head.range.start ≡ 40 = start_is head.range.start test in
          let now : AreOptions (part step keeps p) has.options = subst (λ octets. AreOptions octets has.options) (new_is is) has.are_options in
          let same : map (item_stepped step) os ≡ has.options =
          sym (all_from (part step keeps p) (map (item_stepped step) os) known.all.options) ∙ all_from (part step keeps p) has.options now in
          let were : AreOptions old os = subst (λ xs. AreOptions old xs) (sym (all_from old known.filled.0 known.filled.1)) known.filled.1 in
          record {
            holds_options = has.holds_options;
            options = os;
            are_options = subst (λ octets. AreOptions octets os) (sym (old_is is)) were;
            ioam = subst IsTrue (ap has_ioam (sym same) ∙ has_ioam-stepped step keeps os) has.ioam;
          }
      by_test false test = has_same q p head (sym (others_same (start_other head.range.start test))) has

  -- the headers, and where they stand
  all_placed : (hs : List Head) → AreHeads p hs → slice_index p 6 ≡ 0 → All (Placed p) hs
  all_placed hs are is =
      let P : ℕ → Type 0 = λ n. Leads (CanPass p) (head_at p) (behind p) (first_spot n) hs are.chain.last in
      placed p hs are.chain.last (subst P is are.chain.reaches)

  pub CarriesIoam-stepped : CarriesIoam p → CarriesIoam (hop_stepped step p)
  CarriesIoam-stepped carries = by_test (has_hop p) refl where
    by_test : (b : Bool) → has_hop p ≡ b → CarriesIoam (cond b (after step keeps p) p)
    by_test true test =
        let is : slice_index p 6 ≡ 0 = zero_is (slice_index p 6) test in
        let were : AreHeads p carries.heads = record { upper = carries.upper; at = carries.at; chain = carries.chain } in
        let known = facts_of step keeps p carries.heads were is in
        let stepped = heads-stepped step keeps p carries.heads were in
        let are : AreHeads (after step keeps p) carries.heads = subst (λ b. AreHeads (cond b (after step keeps p) p) carries.heads) test stepped in
        record {
          heads = carries.heads;
          upper = are.upper;
          at = are.at;
          chain = are.chain;
          has_ioam = turned (HasIoam p) (HasIoam (after step keeps p)) (Placed p) carries.heads (has_after known) (all_placed carries.heads were is) carries.has_ioam;
        }
    by_test false test = carries

  pub CarriesIoam-unstepped : IsSound p → CarriesIoam (hop_stepped step p) → CarriesIoam p
  CarriesIoam-unstepped sound carries = by_test (has_hop p) refl carries where
    by_test : (b : Bool) → has_hop p ≡ b → CarriesIoam (cond b (after step keeps p) p) → CarriesIoam p
    by_test true test carries =
        let is : slice_index p 6 ≡ 0 = zero_is (slice_index p 6) test in
        let were : AreHeads p sound.heads = record { upper = sound.upper; at = sound.at; chain = sound.chain } in
        let known = facts_of step keeps p sound.heads were is in
        let stepped = heads-stepped step keeps p sound.heads were in
        let are : AreHeads (after step keeps p) sound.heads = subst (λ b. AreHeads (cond b (after step keeps p) p) sound.heads) test stepped in
        let same : carries.heads ≡ sound.heads = (Chain-unique (after step keeps p) carries.heads carries.upper carries.at sound.heads are.upper are.at carries.chain are.chain).0 in
        record {
          heads = sound.heads;
          upper = sound.upper;
          at = sound.at;
          chain = sound.chain;
          has_ioam = turned (HasIoam (after step keeps p)) (HasIoam p) (Placed p) sound.heads (had_before known) (all_placed sound.heads were is)
              (subst (λ hs. Any (HasIoam (after step keeps p)) hs) same carries.has_ioam);
        }
    by_test false test carries = carries
