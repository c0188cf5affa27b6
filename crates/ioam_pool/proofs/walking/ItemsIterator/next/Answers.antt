use Rattle.std.proofs.Common.{ap, length, rules}
use Rattle.ioam_pool.proofs.SeatLaws.{first_step}
use Rattle.ioam_pool.specs.Cells.{blank}
use Rattle.ioam_pool.proofs.walking.ItemsIterator.next.Goals as goal

pub bounds-self-inside-place : goal.bounds-self-inside-place
bounds-self-inside-place c = (first_step _ _ _ blank c.in_ok-place.was c.self.invariant).0

pub invariant_of-self : goal.invariant_of-self
invariant_of-self c = (first_step _ _ _ c.index-self-place.result c.in_ok-place.was c.self.invariant).1

pub returns-clause-steps : goal.returns-clause-steps
returns-clause-steps c = rw (← c.self.view_is) (first_step _ _ _ c.index-self-place.result c.in_ok-place.was c.self.invariant).2

pub returns-clause-goes : goal.returns-clause-goes
returns-clause-goes c =
    let fewer = ap length (first_step _ _ _ c.index-self-place.result c.in_ok-place.was c.self.invariant).2 in
    rw (← c.self.view_is) (search rules)
