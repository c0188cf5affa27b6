-- The lines of flows, one after the other.
use Rattle.std.proofs.Common.{◌≡◌, ℕ, ◌+◌, ◌<◌, ◌-◌, Bool, true, false, cond, List, [], ◌∷◌, ◌++◌, length, take, get_or, flat_map, eqb, codes, decimal, Result, Ok, Err, refl, sym, ap, ◌∙◌, arith, append_assoc, append-nil}
use Rattle.std.specs.Result.{OnOk, is_ok}
use Rattle.std.proofs.lemmas.Bool.Decides.{nat_tests}
use Rattle.std.proofs.lemmas.List.{take_more}
use Rattle.std.proofs.lemmas.List.Concat.{flat_map-append}
use Rattle.std.proofs.lemmas.List.Sums.{sum_by_more}
use Rattle.ioam_leak_flows.specs.Lines.{flow_line, others_line, rest_of}
use Rattle.ioam_leak_flows.specs.declared.flow.Flow.{Flow}

-- what was appended, as a whole
pub appended : {T E : Type 0} (r : Result T E) (front added new whole : List ℕ) → new ≡ cond (is_ok r) (front ++ added) front → front ++ added ≡ whole
    → OnOk r (new ≡ whole)
appended (Ok x) front added new whole is all = is ∙ all
appended (Err e) front added new whole is all = tt

-- one line more
pub lines_more : (rows : List (Flow × ℕ)) (at : ℕ) (d : Flow × ℕ) → at < length rows
    → flat_map flow_line (take (at + 1) rows) ≡ flat_map flow_line (take at rows) ++ flow_line (get_or rows at d)
lines_more rows at d within = ap (flat_map flow_line) (take_more rows at d within) ∙ flat_map-append flow_line (take at rows) (get_or rows at d ∷ [])
    ∙ ap (λ (line : List ℕ). flat_map flow_line (take at rows) ++ line) (append-nil (flow_line (get_or rows at d)))

-- and the packets of one flow less
pub rest_more : (leaks : ℕ) (rows : List (Flow × ℕ)) (at : ℕ) (d : Flow × ℕ) → at < length rows
    → rest_of leaks (take (at + 1) rows) ≡ rest_of leaks (take at rows) - (get_or rows at d).1
rest_more leaks rows at d within = omega (arith, sum_by_more (λ (row : Flow × ℕ). row.1) rows at d within)

not_none : (n : ℕ) → (n ≡ 0 → ⊥) → eqb n 0 ≡ false
not_none n some = by_test (eqb n 0) refl where
  by_test : (b : Bool) → eqb n 0 ≡ b → b ≡ false
  by_test true zero_is = absurd (some (grind (arith, nat_tests)))
  by_test false other = refl

some_others : (n : ℕ) → eqb n 0 ≡ false → codes "flows others " ++ decimal n ++ codes "\n" ≡ others_line n
some_others n is = ap (λ (b : Bool). cond b [] (codes "flows others " ++ decimal n ++ codes "\n")) (sym is)

-- and so is the line of all others
pub appended_line : {T E : Type 0} (r : Result T E) (n : ℕ) (out one two new : List ℕ) → (n ≡ 0 → ⊥)
    → one ≡ out ++ codes "flows others " → two ≡ one ++ decimal n → new ≡ cond (is_ok r) (two ++ codes "\n") two → OnOk r (new ≡ out ++ others_line n)
appended_line (Ok x) n out one two new some first second last =
    last ∙ ap (λ (xs : List ℕ). xs ++ codes "\n") (second ∙ ap (λ (xs : List ℕ). xs ++ decimal n) first)
    ∙ ap (λ (xs : List ℕ). xs ++ codes "\n") (append_assoc out (codes "flows others ") (decimal n))
    ∙ append_assoc out (codes "flows others " ++ decimal n) (codes "\n")
    ∙ ap (λ (xs : List ℕ). out ++ xs) (some_others n (not_none n some))
appended_line (Err e) n out one two new some first second last = tt
