use Rattle.std.proofs.Common.{ℕ, List, ◌-◌, ◌≤◌, length}
use Rattle.ioam_trace.specs.Area.{Runs}
use Rattle.ioam_trace.proofs.area.end_of.Given as goal

abbrev pub invariant-elements : goal.invariant-elements
invariant-elements l = record {
  inside : l.at ≤ length l.used;
  runs : (passed : List (List ℕ)) × Runs l.kind l.node_len l.used 0 passed l.at;
}

abbrev pub decreases-elements : goal.decreases-elements
decreases-elements l = length l.used - l.at
