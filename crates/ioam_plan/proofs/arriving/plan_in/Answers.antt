use Rattle.std.proofs.Common.{Option, IsSomeAnd, sym, subst}
use Rattle.ioam_topo.specs.declared.parts.Port.{Port}
use Rattle.ioam_plan.specs.Plans.{PlansBy}
use Rattle.ioam_plan.proofs.PlansLaws.{Plans-unique}
use Rattle.ioam_plan.proofs.TravelsLaws.{Plans-travels}
use Rattle.ioam_plan.proofs.arriving.plan_in.Goals as goal

pub returns-in-Ok-clause-only : goal.returns-in-Ok-clause-only
returns-in-Ok-clause-only c earlier other stand plans =
    let at = c.port_of-at.ensures.value in
    let P : Option Port → Type 0 = λ at. IsSomeAnd at (PlansBy c.args.domain.now c.args.readings.now earlier c.args.time c.in-Ok.itinerary c.args.admitted.now) in
    Plans-unique c.args.domain.now c.args.readings.now earlier c.args.time c.in-Ok.itinerary other c.args.port c.args.admitted.now
    (c.in-Ok.ensures.port, subst P (sym at) (c.in-Ok.ensures.plans earlier stand)) plans

pub returns-in-Ok-clause-counted : goal.returns-in-Ok-clause-counted
returns-in-Ok-clause-counted c earlier stand = c.note.ensures.counted c.args.domain.now earlier stand

pub returns-in-Ok-clause-travels : goal.returns-in-Ok-clause-travels
returns-in-Ok-clause-travels c earlier stand =
    let at = c.port_of-at.ensures.value in
    let P : Option Port → Type 0 = λ at. IsSomeAnd at (PlansBy c.args.domain.now c.args.readings.now earlier c.args.time c.in-Ok.itinerary c.args.admitted.now) in
    Plans-travels c.args.domain.now c.args.readings.now earlier c.args.port c.args.time c.args.admitted.now c.in-Ok.itinerary
    (c.in-Ok.ensures.port, subst P (sym at) (c.in-Ok.ensures.plans earlier stand))
