use Rattle.ioam_plan.proofs.SomeWayLaws.{Travels-some}
use Rattle.ioam_plan.proofs.TravelsLaws.{Travels-are-plans, Travels-unique}
use Rattle.ioam_plan.proofs.laws.one_journey.Goals as goal

pub returns-clause-same : goal.returns-clause-same
returns-clause-same c = Travels-are-plans

pub returns-clause-one : goal.returns-clause-one
returns-clause-one c = Travels-unique

pub returns-clause-some : goal.returns-clause-some
returns-clause-some c = Travels-some
