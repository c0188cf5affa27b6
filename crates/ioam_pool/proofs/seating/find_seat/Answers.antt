use Rattle.ioam_pool.proofs.SeatLaws.{passed_ends, first_step, step_smaller, step_more, step_held}
use Rattle.ioam_pool.proofs.GuideLaws.{place_on, start_inside, start_passed}
use Rattle.ioam_pool.specs.Cells.{blank}
use Rattle.ioam_pool.proofs.seating.find_seat.Goals as goal

pub next_of-at-requires : goal.next_of-at-requires
next_of-at-requires c = start_inside _ _ _ _ c.requires.start

pub bounds-cells-place : goal.bounds-cells-place
bounds-cells-place c =
    (first_step c.args.cells.now c.passing.at c.in-Some.place blank c.in-Some.is
    (passed_ends c.args.cells.now c.args.head c.passing.before c.args.item.now c.passing.at c.passing.invariant.passed)).0

pub passing-init : goal.passing-init
passing-init c = record {
  passed = rw c.next_of-at.ensures (start_passed _ _ _ c.requires.ends c.requires.in_order _ c.requires.start);
  trails = (tt, tt);
}

pub passing-smaller : goal.passing-smaller
passing-smaller c = step_smaller _ _ _ _ _ c.passing.invariant.passed _ _ c.in-Some.is c.index-cells-place.is

pub passing-preserved : goal.passing-preserved
passing-preserved c = record {
  passed = step_more _ _ _ _ _ c.passing.invariant.passed _ _ c.in-Some.is c.index-cells-place.is c.in-Less.ensures;
  trails = c.pass-trail.ensures _ _ (place_on _ _ _ _ _ c.passing.invariant.passed _ c.in-Some.is) c.passing.invariant.trails;
}

pub returns-in-Equal-clause-seat : goal.returns-in-Equal-clause-seat
returns-in-Equal-clause-seat c = step_held _ _ _ _ _ c.passing.invariant.passed _ _ c.in-Some.is c.index-cells-place.is c.in-Equal.ensures

pub returns-in-Equal-clause-passed : goal.returns-in-Equal-clause-passed
returns-in-Equal-clause-passed c = c.passing.invariant.trails.0

pub returns-in-Greater-clause-passed : goal.returns-in-Greater-clause-passed
returns-in-Greater-clause-passed c = c.passing.invariant.trails.0

pub returns-clause-passed : goal.returns-clause-passed
returns-clause-passed c = c.passing.invariant.trails.0
