use Rattle.std.proofs.Common.{◌≤◌, ◌*◌, length}
use Rattle.ioam_collect.proofs.ahead.read_ahead.Given as goal

abbrev pub invariant-steps : goal.invariant-steps
invariant-steps l = l.count ≤ l.counter * length l.groups
