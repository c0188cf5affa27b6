use Rattle.std.proofs.Common.{length, ◌-◌, ◌≤◌}
use Rattle.ioam_ip.proofs.Looking.{Looked}
use Rattle.ioam_ip.proofs.scan.look_through.Given as goal

abbrev pub invariant-loop-at : goal.invariant-loop-at
invariant-loop-at l = Looked l.head l.at l.found × (l.at ≤ length l.head)

abbrev pub decreases-loop-at : goal.decreases-loop-at
decreases-loop-at l = length l.head - l.at
