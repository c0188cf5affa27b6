use Rattle.std.proofs.Common.{◌≤◌}
use Rattle.ioam_collect.proofs.ahead.read_one_of_each.Given as goal

abbrev pub invariant-groups : goal.invariant-groups
invariant-groups l = l.found ≤ l.items-index
