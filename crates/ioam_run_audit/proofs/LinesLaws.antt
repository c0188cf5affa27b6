-- One line more.
use Rattle.std.proofs.Common.{◌≡◌, ℕ, ◌+◌, List, [], ◌∷◌, ◌++◌, length, refl, sym, ap, ◌∙◌, arith, append_assoc, append-nil}
use Rattle.ioam_run_audit.specs.Lines.{line_of, lines_of, sums_of, with_fate, Sums}
use Rattle.ioam_run_audit.specs.declared.fate.Fate.{Fate}
use Rattle.ioam_run_audit.specs.declared.fate.Fate.TheVariants.{Sent, Gone, Skipped}
use Rattle.ioam_run_audit.proofs.FatesLaws.{sent_count, number_is}

pub lines_push : (number : ℕ) (fates : List Fate) (fate : Fate) → lines_of number (fates ++ fate ∷ []) ≡ lines_of number fates ++ line_of (number + length fates) fate
lines_push number [] fate = append-nil (line_of number fate) ∙ ap (λ n. line_of n fate) (omega arith)
lines_push number (f ∷ fates) fate =
    let here : number + 1 + length fates ≡ number + length (f ∷ fates) = omega arith in
    ap (λ (rest : List ℕ). line_of number f ++ rest) (lines_push (number + 1) fates fate)
    ∙ sym (append_assoc (line_of number f) (lines_of (number + 1) fates) (line_of (number + 1 + length fates) fate))
    ∙ ap (λ (n : ℕ). (line_of number f ++ lines_of (number + 1) fates) ++ line_of n fate) here

swapped : (f g : Fate) (sums : Sums) → with_fate f (with_fate g sums) ≡ with_fate g (with_fate f sums)
swapped (Sent m) (Sent n) sums = refl
swapped (Sent m) Gone sums = refl
swapped (Sent m) (Skipped why) sums = refl
swapped Gone (Sent n) sums = refl
swapped Gone Gone sums = refl
swapped Gone (Skipped why) sums = refl
swapped (Skipped who) (Sent n) sums = refl
swapped (Skipped who) Gone sums = refl
swapped (Skipped who) (Skipped why) sums = refl

pub sums_push : (fates : List Fate) (fate : Fate) → sums_of (fates ++ fate ∷ []) ≡ with_fate fate (sums_of fates)
sums_push [] fate = refl
sums_push (f ∷ fates) fate = ap (with_fate f) (sums_push fates fate) ∙ swapped f fate (sums_of fates)

pub sums_sent : (fates : List Fate) → (sums_of fates).sent ≡ sent_count fates
sums_sent [] = refl
sums_sent (Sent m ∷ fates) = omega (arith, sums_sent fates, number_is 1 fates)
sums_sent (Gone ∷ fates) = sums_sent fates
sums_sent (Skipped why ∷ fates) = sums_sent fates

pub sums_all : (fates : List Fate) → (sums_of fates).sent + (sums_of fates).gone + (sums_of fates).skipped ≡ length fates
sums_all [] = refl
sums_all (Sent m ∷ fates) = omega (arith, sums_all fates)
sums_all (Gone ∷ fates) = omega (arith, sums_all fates)
sums_all (Skipped why ∷ fates) = omega (arith, sums_all fates)
