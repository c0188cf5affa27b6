-- Laws of names.
use Rattle.std.proofs.Common.{◌≡◌, ℕ, ◌<◌, List, [], length, get_or, ◌∙◌, ⊎_elim, arith}
use Rattle.std.proofs.lemmas.Bool.{cases_lt}
use Rattle.std.proofs.lemmas.List.{get_or_default}
use Rattle.ioam_desk_outputs.specs.Names.{IsFirstRepeat, name_at}

-- at most one place is that of the first name that equals an earlier one
pub first_unique : (names : List (List ℕ)) (a b : ℕ) → IsFirstRepeat names a → IsFirstRepeat names b → a ≡ b
first_unique names a b x y = ⊎_elim (λ below. absurd (y.none_before a below x.repeats))
    (λ not_below. ⊎_elim (λ above. absurd (x.none_before b above y.repeats)) (λ not_above. omega (arith, not_below, not_above)) (cases_lt b a))
    (cases_lt a b)

-- the name at a place, at whatever default it was read
pub found_name : (names : List (List ℕ)) (at : ℕ) (name : List ℕ) → name ≡ get_or names at name → at < length names → name ≡ name_at names at
found_name names at name is inside = is ∙ get_or_default names at name [] inside
