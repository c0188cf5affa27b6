use Rattle.std.proofs.Common.{length, Some}
use Rattle.ioam_pool.specs.Cells.{Reaches, entries_from}
use Rattle.ioam_pool.proofs.freeing.last_of.Given as goal

abbrev pub invariant-passing : goal.invariant-passing
invariant-passing l = Reaches l.cells l.fn.head l.last l.count

abbrev pub decreases-passing : goal.decreases-passing
decreases-passing l = length (entries_from l.cells (Some l.last))
