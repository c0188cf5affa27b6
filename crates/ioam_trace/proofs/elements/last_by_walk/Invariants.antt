use Rattle.std.proofs.Common.{◌-◌, ◌≤◌, length}
use Rattle.ioam_trace.proofs.AreaLaws.{Follows}
use Rattle.ioam_trace.proofs.elements.last_by_walk.Given as goal

abbrev pub invariant-elements : goal.invariant-elements
invariant-elements l = record {
  inside : l.at ≤ length l.used;
  follows : Follows l.kind l.node_len l.used l.last l.at;
}

abbrev pub decreases-elements : goal.decreases-elements
decreases-elements l = length l.used - l.at
