-- Laws of the headers that an iterator has left.
use Rattle.std.proofs.Common.{◌≡◌, ◌≢◌, ◌⊎◌, ℕ, zero, suc, ◌+◌, ◌<◌, ◌≤◌, List, [], ◌∷◌, Bool, true, false, cond, leb, ◌&&◌, length, refl, sym, ap, ◌∙◌, subst, inl, inr, arith}
use Rattle.std.proofs.lemmas.Bool.Decides.{nat_tests}
use Rattle.ioam_base.specs.Leads.{Leads}
use Rattle.ioam_ip.specs.Chain.{kind_of, size_by, fragment_offset, Admits, CanPass, EndsBy, EndsAt, end_at, head_at, behind, start, IsSound}
use Rattle.ioam_ip.specs.HeadsLeft.{goes_on_by, goes_on, heads_from, AreHeads}
use Rattle.ioam_ip.specs.declared.chain.Kind.{Kind}
use Rattle.ioam_ip.specs.declared.chain.Kind.TheVariants.{HopByHop, Destination, Routing, Fragment, Nested, Upper}
use Rattle.ioam_ip.specs.declared.chain.HeadSpot.{HeadSpot}
use Rattle.ioam_ip.specs.declared.chain.Head.{Head}

past : (b : Bool) (xs : List Head) → b ≡ false → cond b xs [] ≡ []
past true xs is = absurd (cc is)
past false xs is = refl

on : (b : Bool) (xs : List Head) → b ≡ true → cond b xs [] ≡ xs
on true xs is = refl
on false xs is = absurd (cc is)

-- nothing is left where the chain doesn't go on
pub none_from : (steps : ℕ) (p : List ℕ) (spot : HeadSpot) → goes_on p spot ≡ false → heads_from steps p spot ≡ []
none_from zero p spot ends = refl
none_from (suc steps) p spot ends = past (goes_on p spot) (head_at p spot ∷ heads_from steps p (behind p spot)) ends

-- where it goes on, the spot behind is further on
size_on : (p : List ℕ) (spot : HeadSpot) (k : Kind) → goes_on_by p spot.at k ≡ true → 1 ≤ size_by p spot.at k
size_on p spot HopByHop goes = omega arith
size_on p spot Destination goes = omega arith
size_on p spot Routing goes = omega arith
size_on p spot Fragment goes = omega arith
size_on p spot Nested goes = omega arith
size_on p spot Upper goes = absurd (cc goes)

both : (a b : Bool) → (a && b) ≡ true → (a ≡ true) × (b ≡ true)
both true b is = (refl, is)
both false b is = absurd (cc is)

cases : (b : Bool) → (b ≡ true) ⊎ (b ≡ false)
cases true = inl refl
cases false = inr refl

on_within : (p : List ℕ) (spot : HeadSpot) → goes_on p spot ≡ true → (end_at p spot ≤ length p) × (spot.at < end_at p spot)
on_within p spot goes =
    let parts : (leb (end_at p spot) (length p) ≡ true) × (goes_on_by p spot.at (kind_of spot.value) ≡ true) =
    both (leb (end_at p spot) (length p)) (goes_on_by p spot.at (kind_of spot.value)) goes in
    (within (end_at p spot) (length p) parts.0, omega (arith, size_on p spot (kind_of spot.value) parts.1)) where
      within : (m n : ℕ) → leb m n ≡ true → m ≤ n
      within m n is = grind (arith, nat_tests)

-- more steps than the octets that are left change nothing
steps-more : (steps : ℕ) (p : List ℕ) (spot : HeadSpot) → length p ≤ steps + spot.at → heads_from (suc steps) p spot ≡ heads_from steps p spot
steps-more zero p spot enough = elim (cases (goes_on p spot)) [
  | inl goes ↦ absurd (omega (arith, on_within p spot goes))
  | inr ends ↦ none_from 1 p spot ends
]
steps-more (suc steps) p spot enough = elim (cases (goes_on p spot)) [
  | inl goes ↦ ap (λ others. cond (goes_on p spot) (head_at p spot ∷ others) [])
      (steps-more steps p (behind p spot) (omega (arith, on_within p spot goes)))
  | inr ends ↦ none_from (suc (suc steps)) p spot ends ∙ sym (none_from (suc steps) p spot ends)
]

-- the headers from a spot on, with one taken off
pub next_from : (p : List ℕ) (spot : HeadSpot) → goes_on p spot ≡ true
    → heads_from (length p) p spot ≡ head_at p spot ∷ heads_from (length p) p (behind p spot)
next_from p spot goes = sym (steps-more (length p) p spot (omega arith))
    ∙ on (goes_on p spot) (head_at p spot ∷ heads_from (length p) p (behind p spot)) goes

admits_on : (p : List ℕ) (spot : HeadSpot) (k : Kind) → Admits p spot k → goes_on_by p spot.at k ≡ true
admits_on p spot HopByHop admits = refl
admits_on p spot Destination admits = refl
admits_on p spot Routing admits = refl
admits_on p spot Fragment admits = grind (arith, nat_tests)
admits_on p spot Nested admits = refl
admits_on p spot Upper admits = absurd admits

ends_off : (p : List ℕ) (spot : HeadSpot) (k : Kind) → EndsBy p spot.at k → goes_on_by p spot.at k ≡ false
ends_off p spot HopByHop ends = absurd ends
ends_off p spot Destination ends = absurd ends
ends_off p spot Routing ends = absurd ends
ends_off p spot Fragment ends = let no : fragment_offset p spot.at ≢ 0 = ends.1 in grind (arith, nat_tests)
ends_off p spot Nested ends = absurd ends
ends_off p spot Upper ends = refl

joined : (a b : Bool) → a ≡ true → b ≡ true → (a && b) ≡ true
joined true b is also = also
joined false b is also = absurd (cc is)

never : (a b : Bool) → b ≡ false → (a && b) ≡ false
never true b is = is
never false b is = refl

pass_on : (p : List ℕ) (spot : HeadSpot) → CanPass p spot → goes_on p spot ≡ true
pass_on p spot pass = joined (leb (end_at p spot) (length p)) (goes_on_by p spot.at (kind_of spot.value))
    (near (end_at p spot) (length p) pass.0) (admits_on p spot (kind_of spot.value) pass.1) where
      near : (m n : ℕ) → m ≤ n → leb m n ≡ true
      near m n le = grind (arith, nat_tests)

open_leads : (p : List ℕ) (spot : HeadSpot) (hs : List Head) (last : HeadSpot) → Leads (CanPass p) (head_at p) (behind p) spot hs last → EndsAt p last
    → heads_from (length p) p spot ≡ hs
open_leads p spot [] last here ends =
    let P : HeadSpot → Type 0 = λ spot. heads_from (length p) p spot ≡ [] in
    subst P (sym here) (none_from (length p) p last (never (leb (end_at p last) (length p)) (goes_on_by p last.at (kind_of last.value)) (ends_off p last (kind_of last.value) ends)))
open_leads p spot (h ∷ hs) last leads ends =
    next_from p spot (pass_on p spot leads.0)
    ∙ ap (λ others. head_at p spot ∷ others) (open_leads p (behind p spot) hs last leads.2 ends)
    ∙ ap (λ head. head ∷ hs) (sym leads.1)

-- the headers from the first spot on are those of the chain
pub all_from : (p : List ℕ) → IsSound p → AreHeads p (heads_from (length p) p (start p))
all_from p sound =
    let P : List Head → Type 0 = λ hs. AreHeads p hs in
    subst P (sym (open_leads p (start p) sound.heads sound.chain.last sound.chain.reaches sound.chain.ends))
    (record { upper = sound.upper; at = sound.at; chain = sound.chain })

-- one step along the chain, from spot to spot
pub step_head : (p : List ℕ) (spot next : HeadSpot) → goes_on p spot ≡ true → next ≡ behind p spot
    → heads_from (length p) p spot ≡ record { value = spot.value; range = record { start = spot.at; end = next.at } } ∷ heads_from (length p) p next
step_head p spot next goes is =
    let P : HeadSpot → Type 0 = λ next. heads_from (length p) p spot ≡ record { value = spot.value; range = record { start = spot.at; end = next.at } } ∷ heads_from (length p) p next in
    subst P (sym is) (next_from p spot goes)
