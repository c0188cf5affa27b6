use Rattle.std.proofs.Common.{length}
use Rattle.ioam_pool.specs.Cells.{Passed, entries_from}
use Rattle.ioam_pool.specs.Guides.{Trails}
use Rattle.ioam_pool.proofs.seating.find_seat.Given as goal

abbrev pub invariant-passing : goal.invariant-passing
invariant-passing l = record {
  passed : Passed l.cells l.fn.head l.before l.at l.item;
  trails : Trails l.cells l.fn.head l.trail;
}

abbrev pub decreases-passing : goal.decreases-passing
decreases-passing l = length (entries_from l.cells l.at)
