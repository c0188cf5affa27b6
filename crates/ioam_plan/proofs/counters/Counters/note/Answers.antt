use Rattle.std.proofs.Common.{subst}
use Rattle.ioam_plan.specs.Counted.{CanCount}
use Rattle.ioam_plan.proofs.CountedLaws.{count_more}
use Rattle.ioam_plan.proofs.counters.Counters.note.Goals as goal

pub returns-in-Some-clause-counted : goal.returns-in-Some-clause-counted
returns-in-Some-clause-counted c domain earlier stand =
    let can = subst (CanCount c.args.self.now) c.in-Some.is c.requires in
    count_more domain c.args.self.now c.raise.new.self earlier c.args.itinerary.now c.in-Some.flow c.in-Some.field-0-1 c.in-Some.is
    can.0 c.raise.ensures stand
