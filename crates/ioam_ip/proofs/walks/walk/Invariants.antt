use Rattle.std.proofs.Common.{length, ◌-◌, ◌≤◌}
use Rattle.ioam_ip.proofs.WalkLaws.{Walked}
use Rattle.ioam_ip.proofs.walks.walk.Given as goal

abbrev pub invariant-loop-next : goal.invariant-loop-next
invariant-loop-next l = Walked l.packet l.spot l.passed × (l.spot.at ≤ length l.packet)

abbrev pub decreases-loop-next : goal.decreases-loop-next
decreases-loop-next l = length l.packet - l.spot.at
