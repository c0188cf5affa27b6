-- What two lists begin with in common.
use Rattle.std.proofs.Common.{◌≡◌, ℕ, zero, suc, ◌+◌, ◌<◌, ◌≤◌, Bool, true, false, cond, eqb, List, [], ◌∷◌, length, get_or, arith, refl}
use Rattle.std.proofs.lemmas.Bool.{eq-eqb, ne_eqb}
use Rattle.ioam_explain.specs.Rows.{common}

at_most : (b : Bool) (n m : ℕ) → n ≤ m → cond b (n + 1) 0 ≤ m + 1
at_most true n m le = omega (arith, le)
at_most false n m le = omega arith

pub common_le : (found wanted : List ℕ) → common found wanted ≤ length found
unfolding common
common_le [] wanted = omega arith
common_le (x ∷ found) [] = omega arith
common_le (x ∷ found) (y ∷ wanted) = omega (arith, at_most (eqb x y) (common found wanted) (length found) (common_le found wanted))

goes_on : (b : Bool) (n : ℕ) → b ≡ true → 0 < cond b (n + 1) 0
goes_on true n is = omega arith
goes_on false n is = absurd (cc is)

stops : (b : Bool) (n : ℕ) → b ≡ false → cond b (n + 1) 0 ≡ 0
stops true n is = absurd (cc is)
stops false n is = refl

before : (b : Bool) (i n : ℕ) → suc i ≤ cond b (n + 1) 0 → i ≤ n
before true i n le = omega (arith, le)
before false i n le = absurd (omega (arith, le))

one_more : (b : Bool) (i n : ℕ) → suc i ≤ cond b (n + 1) 0 → i + 1 ≤ n → suc i + 1 ≤ cond b (n + 1) 0
one_more true i n le more = omega (arith, more)
one_more false i n le more = absurd (omega (arith, le))

no_more : (b : Bool) (i n : ℕ) → suc i ≤ cond b (n + 1) 0 → n ≡ i → cond b (n + 1) 0 ≡ suc i
no_more true i n le is = omega (arith, is)
no_more false i n le is = absurd (omega (arith, le))

-- one octet more in common
pub common_more : (found wanted : List ℕ) (i : ℕ) → i ≤ common found wanted → i < length found → i < length wanted
    → get_or found i 0 ≡ get_or wanted i 0 → i + 1 ≤ common found wanted
unfolding common
common_more [] wanted i le in_found in_wanted same = absurd (omega (arith, in_found))
common_more (x ∷ found) [] i le in_found in_wanted same = absurd (omega (arith, in_wanted))
common_more (x ∷ found) (y ∷ wanted) zero le in_found in_wanted same =
    omega (arith, goes_on (eqb x y) (common found wanted) (eq-eqb x y same))
common_more (x ∷ found) (y ∷ wanted) (suc i) le in_found in_wanted same =
    one_more (eqb x y) i (common found wanted) le
    (common_more found wanted i (before (eqb x y) i (common found wanted) le) (omega (arith, in_found)) (omega (arith, in_wanted)) same)

-- none
pub common_stop : (found wanted : List ℕ) (i : ℕ) → i ≤ common found wanted → i < length found → i < length wanted
    → (get_or found i 0 ≡ get_or wanted i 0 → ⊥) → common found wanted ≡ i
unfolding common
common_stop [] wanted i le in_found in_wanted other = absurd (omega (arith, in_found))
common_stop (x ∷ found) [] i le in_found in_wanted other = absurd (omega (arith, in_wanted))
common_stop (x ∷ found) (y ∷ wanted) zero le in_found in_wanted other =
    stops (eqb x y) (common found wanted) (ne_eqb x y other)
common_stop (x ∷ found) (y ∷ wanted) (suc i) le in_found in_wanted other =
    no_more (eqb x y) i (common found wanted) le
    (common_stop found wanted i (before (eqb x y) i (common found wanted) le) (omega (arith, in_found)) (omega (arith, in_wanted)) other)
