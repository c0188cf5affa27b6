-- Where two packets have the same octets from a place on, perhaps at other places, their chains go on alike from there.
use Rattle.std.proofs.Common.{◌≡◌, ℕ, ◌+◌, ◌-◌, ◌*◌, ◌/◌, ◌≤◌, List, [], ◌∷◌, length, take, drop, map, slice_index, slice_range, get_or, refl, sym, ap, ◌∙◌, subst, arith, get_or-drop}
use Rattle.std.specs.List.{All}
use Rattle.std.proofs.lemmas.List.{drop-drop}
use Rattle.std.proofs.lemmas.List.Elements.{All-nil, All-cons}
use Rattle.ioam_base.specs.Leads.{Leads}
use Rattle.ioam_ip.specs.Options.{IsFilled}
use Rattle.ioam_ip.specs.Chain.{kind_of, said_size, size_by, next_by, fragment_offset, Admits, end_at, CanPass, head_at, behind, EndsBy, EndsAt}
use Rattle.ioam_ip.specs.declared.chain.Kind.{Kind}
use Rattle.ioam_ip.specs.declared.chain.Kind.TheVariants.{HopByHop, Destination, Routing, Fragment, Nested, Upper}
use Rattle.ioam_ip.specs.declared.chain.HeadSpot.{HeadSpot}
use Rattle.ioam_ip.specs.declared.chain.Head.{Head}

module _ (p q : List ℕ) (from shift : ℕ) (same : drop (from + shift) q ≡ drop from p) (long : length q ≡ length p + shift) where
  abbrev pub moved : HeadSpot → HeadSpot
  moved spot = record { value = spot.value; at = spot.at + shift; behind_ip = spot.behind_ip }

  abbrev pub moved_head : Head → Head
  moved_head head = record { value = head.value; range = record { start = head.range.start + shift; end = head.range.end + shift } }

  rest_same : (at : ℕ) → from ≤ at → drop (at + shift) q ≡ drop at p
  rest_same at behind =
      let a : (from + shift) + (at - from) ≡ at + shift = omega arith in
      let b : from + (at - from) ≡ at = omega arith in
      ap (λ n. drop n q) (sym a) ∙ sym (drop-drop (at - from) (from + shift) q) ∙ ap (λ xs. drop (at - from) xs) same
      ∙ drop-drop (at - from) from p ∙ ap (λ n. drop n p) b

  octet_same : (at k : ℕ) → from ≤ at → slice_index q (at + shift + k) ≡ slice_index p (at + k)
  octet_same at k behind = sym (get_or-drop (at + shift) q k 0) ∙ ap (λ xs. get_or xs k 0) (rest_same at behind) ∙ get_or-drop at p k 0

  first_same : (at : ℕ) → from ≤ at → slice_index q (at + shift) ≡ slice_index p at
  first_same at behind =
      let a : at + shift + 0 ≡ at + shift = omega arith in
      let b : at + 0 ≡ at = omega arith in
      ap (λ n. slice_index q n) (sym a) ∙ octet_same at 0 behind ∙ ap (λ n. slice_index p n) b

  range_same : (at size : ℕ) → from ≤ at → slice_range q (at + shift) (at + shift + size) ≡ slice_range p at (at + size)
  range_same at size behind =
      let a : (at + shift + size) - (at + shift) ≡ size = omega arith in
      let b : (at + size) - at ≡ size = omega arith in
      ap (λ n. take n (drop (at + shift) q)) (a ∙ sym b) ∙ ap (λ xs. take ((at + size) - at) xs) (rest_same at behind)

  said_same : (at : ℕ) → from ≤ at → said_size q (at + shift) ≡ said_size p at
  said_same at behind = ap (λ n. (n + 1) * 8) (octet_same at 1 behind)

  size_same : (at : ℕ) (k : Kind) → from ≤ at → size_by q (at + shift) k ≡ size_by p at k
  size_same at HopByHop behind = said_same at behind
  size_same at Destination behind = said_same at behind
  size_same at Routing behind = said_same at behind
  size_same at Fragment behind = refl
  size_same at Nested behind = refl
  size_same at Upper behind = refl

  next_same : (at : ℕ) (k : Kind) → from ≤ at → next_by q (at + shift) k ≡ next_by p at k
  next_same at HopByHop behind = first_same at behind
  next_same at Destination behind = first_same at behind
  next_same at Routing behind = first_same at behind
  next_same at Fragment behind = first_same at behind
  next_same at Nested behind = octet_same at 6 behind
  next_same at Upper behind = refl

  offset_same : (at : ℕ) → from ≤ at → fragment_offset q (at + shift) ≡ fragment_offset p at
  offset_same at behind =
      let a : at + shift + 2 + 1 ≡ at + shift + 3 = omega arith in
      let b : at + 2 + 1 ≡ at + 3 = omega arith in
      let third : slice_index q (at + shift + 2 + 1) ≡ slice_index p (at + 2 + 1) =
      ap (λ n. slice_index q n) a ∙ octet_same at 3 behind ∙ ap (λ n. slice_index p n) (sym b) in
      λ i. (octet_same at 2 behind i * 256 + third i) / 8

  filled_same : (at : ℕ) → from ≤ at → IsFilled (slice_range p at (at + said_size p at)) → IsFilled (slice_range q (at + shift) (at + shift + said_size q (at + shift)))
  filled_same at behind filled =
      let P : List ℕ → Type 0 = λ xs. IsFilled xs in
      subst P (sym (ap (λ n. slice_range q (at + shift) (at + shift + n)) (said_same at behind) ∙ range_same at (said_size p at) behind)) filled

  admits_same : (spot : HeadSpot) (k : Kind) → from ≤ spot.at → Admits p spot k → Admits q (moved spot) k
  admits_same spot HopByHop behind admits = (admits.0, filled_same spot.at behind admits.1)
  admits_same spot Destination behind admits = filled_same spot.at behind admits
  admits_same spot Routing behind admits = tt
  admits_same spot Fragment behind admits = offset_same spot.at behind ∙ admits
  admits_same spot Nested behind admits = ap (λ n. n / 16) (first_same spot.at behind) ∙ admits
  admits_same spot Upper behind admits = absurd admits

  ends_same : (at : ℕ) (k : Kind) → from ≤ at → EndsBy p at k → EndsBy q (at + shift) k
  ends_same at HopByHop behind ends = absurd ends
  ends_same at Destination behind ends = absurd ends
  ends_same at Routing behind ends = absurd ends
  ends_same at Fragment behind ends = (omega (arith, ends.0), λ is. ends.1 (sym (offset_same at behind) ∙ is))
  ends_same at Nested behind ends = absurd ends
  ends_same at Upper behind ends = tt

  end_same : (spot : HeadSpot) → from ≤ spot.at → end_at q (moved spot) ≡ end_at p spot + shift
  end_same spot behind = omega (arith, size_same spot.at (kind_of spot.value) behind)

  pass_same : (spot : HeadSpot) → from ≤ spot.at → CanPass p spot → CanPass q (moved spot)
  pass_same spot behind pass = (omega (arith, pass.0, end_same spot behind), admits_same spot (kind_of spot.value) behind pass.1)

  behind_same : (spot : HeadSpot) → from ≤ spot.at → behind q (moved spot) ≡ moved (behind p spot)
  behind_same spot after = λ i. record { value = next_same spot.at (kind_of spot.value) after i; at = end_same spot after i; behind_ip = (behind p spot).behind_ip }

  head_same : (spot : HeadSpot) → from ≤ spot.at → head_at q (moved spot) ≡ moved_head (head_at p spot)
  head_same spot after = λ i. record { value = spot.value; range = record { start = spot.at + shift; end = end_same spot after i } }

  pub leads_same : (spot : HeadSpot) (hs : List Head) (last : HeadSpot) → from ≤ spot.at → Leads (CanPass p) (head_at p) (behind p) spot hs last
      → Leads (CanPass q) (head_at q) (behind q) (moved spot) (map moved_head hs) (moved last)
  leads_same spot [] last after here = ap moved here
  leads_same spot (h ∷ hs) last after leads =
      let P : HeadSpot → Type 0 = λ next. Leads (CanPass q) (head_at q) (behind q) next (map moved_head hs) (moved last) in (
        pass_same spot after leads.0,
        ap moved_head leads.1 ∙ sym (head_same spot after),
        subst P (sym (behind_same spot after)) (leads_same (behind p spot) hs last (omega arith) leads.2),
      )

  pub ends_at_same : (spot : HeadSpot) → from ≤ spot.at → EndsAt p spot → EndsAt q (moved spot)
  ends_at_same spot after ends = ends_same spot.at (kind_of spot.value) after ends

-- ---- where headers stand

-- no spot of a chain stands in front of its first
pub last_behind : (p : List ℕ) (spot : HeadSpot) (hs : List Head) (last : HeadSpot) → Leads (CanPass p) (head_at p) (behind p) spot hs last → spot.at ≤ last.at
last_behind p spot [] last here = omega (arith, ap (λ (s : HeadSpot). s.at) here)
last_behind p spot (h ∷ hs) last leads = omega (arith, last_behind p (behind p spot) hs last leads.2)

-- nor does a header of it
pub heads_behind_spot : (p : List ℕ) (spot : HeadSpot) (hs : List Head) (last : HeadSpot) → Leads (CanPass p) (head_at p) (behind p) spot hs last
    → All (λ (head : Head). spot.at ≤ head.range.start) hs
heads_behind_spot p spot [] last here = All-nil (λ (head : Head). spot.at ≤ head.range.start)
heads_behind_spot p spot (h ∷ hs) last leads =
    let others = heads_behind_spot p (behind p spot) hs last leads.2 in
    All-cons (λ (head : Head). spot.at ≤ head.range.start) h hs
    (omega (arith, ap (λ (head : Head). head.range.start) leads.1))
    (λ k d below. omega (arith, others k d below))

-- ---- at the same places

module _ (p q : List ℕ) (from : ℕ) (same : drop from q ≡ drop from p) (long : length q ≡ length p) where
  there_same : drop (from + 0) q ≡ drop from p
  there_same = let none : from + 0 ≡ from = omega arith in ap (λ n. drop n q) none ∙ same

  long_same : length q ≡ length p + 0
  long_same = omega (arith, long)

  spot_stays : (spot : HeadSpot) → moved p q from 0 there_same long_same spot ≡ spot
  spot_stays spot = let none : spot.at + 0 ≡ spot.at = omega arith in
      λ i. record { value = spot.value; at = none i; behind_ip = spot.behind_ip }

  head_stays : (head : Head) → moved_head p q from 0 there_same long_same head ≡ head
  head_stays head =
      let first : head.range.start + 0 ≡ head.range.start = omega arith in
      let last : head.range.end + 0 ≡ head.range.end = omega arith in
      λ i. record { value = head.value; range = record { start = first i; end = last i } }

  heads_stay : (hs : List Head) → map (moved_head p q from 0 there_same long_same) hs ≡ hs
  heads_stay [] = refl
  heads_stay (h ∷ hs) = λ i. head_stays h i ∷ heads_stay hs i

  pub leads_alike : (spot : HeadSpot) (hs : List Head) (last : HeadSpot) → from ≤ spot.at → Leads (CanPass p) (head_at p) (behind p) spot hs last
      → Leads (CanPass q) (head_at q) (behind q) spot hs last
  leads_alike spot hs last after leads =
      let moves = leads_same p q from 0 there_same long_same spot hs last after leads in
      let P : HeadSpot → Type 0 = λ s. Leads (CanPass q) (head_at q) (behind q) s hs last in
      let Q : List Head → Type 0 = λ xs. Leads (CanPass q) (head_at q) (behind q) (moved p q from 0 there_same long_same spot) xs last in
      let R : HeadSpot → Type 0 = λ s. Leads (CanPass q) (head_at q) (behind q) (moved p q from 0 there_same long_same spot) (map (moved_head p q from 0 there_same long_same) hs) s in
      subst P (spot_stays spot) (subst Q (heads_stay hs) (subst R (spot_stays last) moves))

  pub ends_alike : (spot : HeadSpot) → from ≤ spot.at → EndsAt p spot → EndsAt q spot
  ends_alike spot after ends =
      let P : HeadSpot → Type 0 = λ s. EndsAt q s in subst P (spot_stays spot) (ends_at_same p q from 0 there_same long_same spot after ends)
