-- How many elements stand in a trace.
use Rattle.std.proofs.Common.{ℕ, zero, suc, ◌≤◌, Bool, true, false, cond, List, [], ◌∷◌, length, arith}
use Rattle.std.proofs.lemmas.List.{length-reverse}
use Rattle.ioam_trace.specs.Area.{behind, element_at, stands, run_from, elements_of}

few_either : (b : Bool) (x : List ℕ) (xs : List (List ℕ)) (fuel : ℕ) → length xs ≤ fuel → length (cond b (x ∷ xs) []) ≤ suc fuel
few_either true x xs fuel few = omega arith
few_either false x xs fuel few = omega arith

few_from : (fuel kind node_len : ℕ) (used : List ℕ) (at : ℕ) → length (run_from fuel kind node_len used at) ≤ fuel
unfolding run_from
few_from zero kind node_len used at = omega arith
few_from (suc fuel) kind node_len used at =
    few_either (stands kind node_len used at) (element_at kind node_len used at) (run_from fuel kind node_len used (behind kind node_len used at)) fuel
    (few_from fuel kind node_len used (behind kind node_len used at))

-- there are no more elements than octets
pub few_elements : (kind node_len : ℕ) (used : List ℕ) → length (elements_of kind node_len used) ≤ length used
few_elements kind node_len used = omega (arith, few_from (length used) kind node_len used 0, length-reverse (run_from (length used) kind node_len used 0))
