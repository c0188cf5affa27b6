-- The first reason of a list of rows.
use Rattle.std.proofs.Common.{◌≡◌, ℕ, zero, suc, ◌+◌, ◌≤◌, List, [], ◌∷◌, ◌++◌, length, drop, get_or, arith, refl, ap, ◌∙◌, Option, Some, None}
use Rattle.ioam_explain.specs.Rows.{first_broken}
use Rattle.ioam_explain.specs.declared.reason.Reason.{Reason}

-- ---- one list after another

pub found : (xs ys : List (Option Reason)) (reason : Reason) → first_broken xs ≡ Some reason → first_broken (xs ++ ys) ≡ Some reason
unfolding first_broken
found [] ys reason is = absurd (cc is)
found (None ∷ xs) ys reason is = found xs ys reason is
found (Some first ∷ xs) ys reason is = is

pub passed : (xs ys : List (Option Reason)) → first_broken xs ≡ None → first_broken (xs ++ ys) ≡ first_broken ys
unfolding first_broken
passed [] ys is = refl
passed (None ∷ xs) ys is = passed xs ys is
passed (Some first ∷ xs) ys is = absurd (cc is)

-- ---- one row after another

pub found_one : (row : Option Reason) (rows : List (Option Reason)) (reason : Reason) → row ≡ Some reason → first_broken (row ∷ rows) ≡ Some reason
unfolding first_broken
found_one None rows reason is = absurd (cc is)
found_one (Some first) rows reason is = is

pub passed_one : (row : Option Reason) (rows : List (Option Reason)) → row ≡ None → first_broken (row ∷ rows) ≡ first_broken rows
unfolding first_broken
passed_one None rows is = refl
passed_one (Some first) rows is = absurd (cc is)

pub only : (row : Option Reason) → first_broken (row ∷ []) ≡ row
unfolding first_broken
only None = refl
only (Some reason) = refl

-- ---- no row of a list is broken

pub none-first : (row : Option Reason) (rows : List (Option Reason)) → first_broken (row ∷ rows) ≡ None → row ≡ None
unfolding first_broken
none-first None rows is = refl
none-first (Some reason) rows is = absurd (cc is)

pub none-rest : (row : Option Reason) (rows : List (Option Reason)) → first_broken (row ∷ rows) ≡ None → first_broken rows ≡ None
unfolding first_broken
none-rest None rows is = is
none-rest (Some reason) rows is = absurd (cc is)

-- ---- from an index on

pub at_end : (rows : List (Option Reason)) (i : ℕ) → length rows ≤ i → first_broken (drop i rows) ≡ None
unfolding first_broken
at_end [] zero le = refl
at_end [] (suc i) le = refl
at_end (row ∷ rows) zero le = absurd (omega (arith, le))
at_end (row ∷ rows) (suc i) le = at_end rows i (omega (arith, le))

pub at_reason : (rows : List (Option Reason)) (i : ℕ) (reason : Reason) → get_or rows i None ≡ Some reason → first_broken (drop i rows) ≡ Some reason
unfolding first_broken
at_reason [] zero reason is = absurd (cc is)
at_reason [] (suc i) reason is = absurd (cc is)
at_reason (None ∷ rows) zero reason is = absurd (cc is)
at_reason (Some first ∷ rows) zero reason is = is
at_reason (row ∷ rows) (suc i) reason is = at_reason rows i reason is

none_at : (rows : List (Option Reason)) (i : ℕ) → get_or rows i None ≡ None → first_broken (drop i rows) ≡ first_broken (drop (suc i) rows)
unfolding first_broken
none_at [] zero is = refl
none_at [] (suc i) is = refl
none_at (None ∷ rows) zero is = refl
none_at (Some first ∷ rows) zero is = absurd (cc is)
none_at (row ∷ rows) (suc i) is = none_at rows i is

pub at_none : (rows : List (Option Reason)) (i : ℕ) → get_or rows i None ≡ None → first_broken (drop i rows) ≡ first_broken (drop (i + 1) rows)
at_none rows i is = let next : suc i ≡ i + 1 = omega arith in none_at rows i is ∙ ap (λ n. first_broken (drop n rows)) next
