use Rattle.std.proofs.Common.{ap, ◌∙◌, arith}
use Rattle.ioam_plan.specs.declared.stage.Entry.{Entry}
use Rattle.ioam_plan.specs.declared.stage.JourneySpot.{JourneySpot}
use Rattle.ioam_topo.specs.declared.ids.PortId.{PortId}
use Rattle.ioam_plan.proofs.FlowLaws.{flow_planned, flow_rides}
use Rattle.ioam_plan.proofs.arrival.Arrival.plan_flow.Goals as goal

pub returns-in-Ok-clause-plans : goal.returns-in-Ok-clause-plans
returns-in-Ok-clause-plans c =
    let at = c.args.self.now in
    flow_planned at.domain.now at.readings.now c.args.number at.port.now at.time c.args.id c.flow_of-flow.result.now
    c.args.packet.now c.args.found c.in-Ok.itinerary c.header_of-header.result c.numbers_of-numbers.result c.flow_trip-trip.result
    c.start_of.result c.entry_of.result c.flow_of-flow.ensures.value c.header_of-header.ensures.fields c.numbers_of-numbers.ensures
    c.flow_trip-trip.ensures c.start_of.ensures c.entry_of.ensures.entry c.in-Ok.ensures.journey

pub returns-in-Ok-clause-rides : goal.returns-in-Ok-clause-rides
returns-in-Ok-clause-rides c =
    let at = c.args.self.now in
    let same = ap (λ (entry : Entry). entry.hops) c.entry_of.ensures.entry in
    flow_rides at.domain.now at.readings.now c.args.number at.time c.args.id c.flow_of-flow.result.now
    c.args.packet.now c.args.found c.in-Ok.itinerary c.numbers_of-numbers.result c.header_of-header.result.target c.header_of-header.result.hops
    c.flow_trip-trip.result c.start_of.result c.entry_of.result
    (omega (arith, ap (λ (p : PortId). p.0) c.in-Ok.ensures.port, at.known)) (omega (arith, c.header_of-header.ensures.short))
    c.flow_of-flow.ensures.value c.requires.known c.requires.packet c.requires.sound c.numbers_of-numbers.ensures c.requires.number c.flow_trip-trip.ensures
    (ap (λ (spot : JourneySpot). spot.hops) c.start_of.ensures ∙ c.header_of-header.ensures.fields.hops) same (omega (arith, same, c.entry_of.ensures.hops))
    c.in-Ok.ensures.journey c.in-Ok.ensures.visits c.in-Ok.ensures.few c.in-Ok.ensures.ridden c.in-Ok.ensures.ends
