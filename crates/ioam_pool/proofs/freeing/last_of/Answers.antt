use Rattle.std.proofs.Common.{arith}
use Rattle.ioam_pool.proofs.SeatLaws.{reaches_first, reaches_few, reaches_more, reaches_smaller, reaches_end}
use Rattle.ioam_pool.specs.Cells.{blank}
use Rattle.ioam_pool.proofs.freeing.last_of.Goals as goal

pub passing-init : goal.passing-init
passing-init c = reaches_first _ _ _ c.in_ok-last.was c.requires.ends

pub overflow_add-count : goal.overflow_add-count
overflow_add-count c = let few = reaches_few _ _ _ _ c.passing.invariant blank in omega arith

pub passing-smaller : goal.passing-smaller
passing-smaller c = reaches_smaller _ _ _ _ c.passing.invariant _ _ c.in-Some.is

pub passing-preserved : goal.passing-preserved
passing-preserved c = reaches_more _ _ _ _ c.passing.invariant _ _ c.in-Some.is

pub returns : goal.returns
returns c = reaches_end _ _ _ _ c.passing.invariant _ c.in_default.is
