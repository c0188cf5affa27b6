use Rattle.std.proofs.Common.{◌-◌, ◌≤◌, length}
use Rattle.ioam_pool.proofs.guides.count_in_front.Given as goal

abbrev pub invariant-halving : goal.invariant-halving
invariant-halving l = (l.low ≤ l.high) × (l.high ≤ length l.guides)

abbrev pub decreases-halving : goal.decreases-halving
decreases-halving l = l.high - l.low
