use Rattle.std.proofs.Common.{ℕ, ◌<◌}
use Rattle.ioam_desk_outputs.specs.Names.{Repeats}
use Rattle.ioam_desk_outputs.proofs.names.first_repeat.Given as goal

-- no name so far equals an earlier one
abbrev pub invariant-loop-at : goal.invariant-loop-at
invariant-loop-at l = (k : ℕ) → k < l.at → Repeats l.names k → ⊥
