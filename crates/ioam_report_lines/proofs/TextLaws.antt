-- Laws of texts that are put together from parts.
use Rattle.std.proofs.Common.{◌≡◌, ℕ, ◌≤◌, List, ◌∷◌, ◌++◌, length, take, codes, decimal, append_assoc, length-append, arith, sym, ap, ◌∙◌}
use Rattle.std.proofs.lemmas.List.{take-append-le}
use Rattle.std.specs.List.{flat_map}
use Rattle.ioam_trace.specs.declared.fault.TraceFault.TheVariants.{NodeLen}
use Rattle.ioam_report_lines.specs.TraceText.{fault_text}

-- what stood in front stands there still
pub front-kept : (n : ℕ) (out new part old : List ℕ) → n ≤ length out → new ≡ out ++ part → take n out ≡ old → take n new ≡ old
front-kept n out new part old inside is_new before = ap (take n) is_new ∙ take-append-le n out part inside ∙ before

-- the words of a fault with two numbers, piece by piece
pub node_len_pieces : (found wanted : ℕ) (old : List ℕ)
    → (codes "  trace bad " ++ codes "node-len") ++ ((codes " " ++ decimal found) ++ ((codes " " ++ decimal wanted) ++ old))
    ≡ (codes "  trace bad " ++ fault_text (NodeLen found wanted)) ++ old
node_len_pieces found wanted old = simp append_assoc

-- one more of the texts that stand in a row was appended
pub lines-step : {X : Type 0} (line : X → List ℕ) (out new old : List ℕ) (before after : List X) (x : X) → before ≡ x ∷ after
    → new ≡ out ++ line x → out ++ flat_map line before ≡ old → new ++ flat_map line after ≡ old
lines-step line out new old before after x is is_new so_far =
    ap (λ xs. xs ++ flat_map line after) is_new
    ∙ append_assoc out (line x) (flat_map line after)
    ∙ ap (λ xs. out ++ flat_map line xs) (sym is)
    ∙ so_far

pub longer : (n : ℕ) (out new part : List ℕ) → n ≤ length out → new ≡ out ++ part → n ≤ length new
longer n out new part inside is_new = omega (arith, ap length is_new, length-append out part)
