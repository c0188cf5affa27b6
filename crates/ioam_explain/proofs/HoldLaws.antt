-- What holds of the octets if a rule isn't broken.
use Rattle.std.proofs.Common.{◌≡◌, ℕ, ◌+◌, Bool, true, false, cond, not, eqb, List, [], ◌∷◌, length, slice_index, arith, refl, None}
use Rattle.std.proofs.lemmas.Bool.{eqb-true, not-false}
use Rattle.ioam_explain.specs.Rows.{common, differing, number, octet, row}
use Rattle.ioam_explain.specs.declared.reason.Rule.{Rule}
use Rattle.ioam_explain.specs.declared.reason.Value.{Value}
use Rattle.ioam_explain.specs.declared.reason.Value.TheVariants.{Number, Octet}

pub row-holds : (b : Bool) (rule : Rule) (trace at : ℕ) (found wanted : Value) → row b rule trace at found wanted ≡ None → b ≡ false
unfolding row
row-holds true rule trace at found wanted is = absurd (cc is)
row-holds false rule trace at found wanted is = refl

pub number-holds : (rule : Rule) (trace at found wanted : ℕ) → number rule trace at found wanted ≡ None → found ≡ wanted
unfolding number
number-holds rule trace at found wanted is =
    eqb-true found wanted (not-false (eqb found wanted) (row-holds (not (eqb found wanted)) rule trace at (Number found) (Number wanted) is))

pub octet-holds : (rule : Rule) (trace at found wanted : ℕ) → octet rule trace at found wanted ≡ None → found ≡ wanted
unfolding octet
octet-holds rule trace at found wanted is =
    eqb-true found wanted (not-false (eqb found wanted) (row-holds (not (eqb found wanted)) rule trace at (Octet found) (Octet wanted) is))

step : (b : Bool) (n m : ℕ) → cond b (n + 1) 0 ≡ m + 1 → (b ≡ true) × (n ≡ m)
step true n m is = (refl, omega (arith, is))
step false n m is = absurd (omega (arith, is))

pub common-same : (found wanted : List ℕ) → length found ≡ length wanted → common found wanted ≡ length found → found ≡ wanted
unfolding common
common-same [] [] same is = refl
common-same [] (y ∷ wanted) same is = absurd (omega (arith, same))
common-same (x ∷ found) [] same is = absurd (omega (arith, same))
common-same (x ∷ found) (y ∷ wanted) same is =
    let both = step (eqb x y) (common found wanted) (length found) (omega (arith, is)) in
    let first = eqb-true x y both.0 in
    let rest = common-same found wanted (omega (arith, same)) both.1 in
    cc (first, rest)

pub differing-holds : (rule : Rule) (trace at : ℕ) (found wanted : List ℕ) → length found ≡ length wanted
    → differing rule trace at found wanted ≡ None → found ≡ wanted
unfolding differing
differing-holds rule trace at found wanted same is =
    let whole = not-false (eqb (common found wanted) (length found))
    (row-holds (not (eqb (common found wanted) (length found))) rule trace (at + common found wanted)
    (Octet (slice_index found (common found wanted))) (Octet (slice_index wanted (common found wanted))) is) in
    common-same found wanted same (eqb-true (common found wanted) (length found) whole)
