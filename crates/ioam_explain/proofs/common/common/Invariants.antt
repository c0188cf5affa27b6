use Rattle.std.proofs.Common.{◌≤◌}
use Rattle.ioam_explain.specs.Rows.{common}
use Rattle.ioam_explain.proofs.common.common.Given as goal

abbrev pub invariant-loop-index : goal.invariant-loop-index
invariant-loop-index l = l.index ≤ common l.found l.wanted
