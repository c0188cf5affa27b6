use Rattle.std.proofs.Common.{subst}
use Rattle.ioam_plan.specs.Journey.{Journey}
use Rattle.ioam_plan.specs.Plans.{plain_trip}
use Rattle.ioam_plan.specs.declared.stage.JourneySpot.{JourneySpot}
use Rattle.ioam_plan.specs.declared.stage.Stage.TheVariants.{At}
use Rattle.ioam_plan.proofs.arrival.Arrival.plan_packet.Goals as goal

pub returns-in-Ok-clause-plans : goal.returns-in-Ok-clause-plans
returns-in-Ok-clause-plans c =
    let domain = c.args.self.now.domain.now in
    let P : JourneySpot → Type 0 = λ spot. Journey domain (plain_trip c.header_of-header.result.target c.args.packet.now) (At spot) c.in-Ok.itinerary in
    record {
      header = c.header_of-header.result;
      fields = c.header_of-header.ensures.fields;
      journey = subst P c.start_of.ensures c.in-Ok.ensures.journey;
    }
