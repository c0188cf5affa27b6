-- What is planned for a frame is how its packet travels, and it travels in one way only.
use Rattle.std.proofs.Common.{◌≡◌, ◌↔◌, ℕ, List, Option, Some, None, IsSomeAnd, is_some, length, slice_get, refl, sym, ◌∙◌, ap, subst}
use Rattle.ioam_clock.specs.declared.sample.Sample.{Sample}
use Rattle.ioam_topo.specs.declared.domain.Domain.{Domain}
use Rattle.ioam_topo.specs.declared.parts.Flow.{Flow}
use Rattle.ioam_topo.specs.declared.parts.Port.{Port}
use Rattle.ioam_topo.specs.declared.ids.FlowId.{FlowId}
use Rattle.ioam_topo.specs.declared.ids.PortId.{PortId}
use Rattle.ioam_topo.specs.Domain.{flows, ports}
use Rattle.ioam_node.specs.declared.answer.Admit.{Admit}
use Rattle.ioam_node.specs.declared.answer.Admit.TheVariants as admit
use Rattle.ioam_tunnel.specs.Limits.{limit_by}
use Rattle.ioam_tunnel.specs.Size.{outer_size}
use Rattle.ioam_tunnel.specs.declared.numbers.Numbers.{Numbers}
use Rattle.ioam_plan.specs.declared.itinerary.Itinerary.{Itinerary}
use Rattle.ioam_plan.specs.declared.stage.JourneyStep.TheVariants.{Ends}
use Rattle.ioam_plan.specs.Counted.{enclosed_in}
use Rattle.ioam_plan.specs.Drawn.{numbers_of, is_refused}
use Rattle.ioam_plan.specs.Plans.{Plans, PlansBy, PlansPacket, PlansFlow}
use Rattle.ioam_plan.specs.Travels.{Travels, TravelsBy, TravelsPacket, TravelsFlow, PassesEntry}
use Rattle.ioam_plan.proofs.RidesLaws.{carried_none}
use Rattle.ioam_plan.proofs.PassesLaws.{plain_runs, entry_runs}
use Rattle.ioam_plan.proofs.PlannedLaws.{plain_passes, entry_passes}
use Rattle.ioam_plan.proofs.PlansLaws.{Plans-unique}

module _ (domain : Domain) (readings : List (List Sample)) (time : ℕ) (it : Itinerary) where
  packet_travels : (port : Port) (packet : List ℕ) → PlansPacket domain port time packet it → TravelsPacket domain port time packet it
  packet_travels port packet plans =
      let journey = plans.journey in
      let passes = plain_passes domain plans.header.target (length packet) port.node port.id time plans.header.hops it.visits it.end it.exited
      (journey.last, journey.reaches, journey.ends) in
      record { header = plans.header; fields = plans.fields; passes = passes.0; exited = passes.1; carried = journey.carried ∙ carried_none it.visits }

  packet_plans : (port : Port) (packet : List ℕ) → TravelsPacket domain port time packet it → PlansPacket domain port time packet it
  packet_plans port packet goes =
      let runs = plain_runs domain goes.header.target (length packet) port.node port.id time goes.header.hops it.visits it.end goes.passes in
      record {
        header = goes.header;
        fields = goes.fields;
        journey = record { last = runs.0; reaches = runs.1; ends = runs.2 ∙ ap (Ends it.end) (sym goes.exited); carried = goes.carried ∙ sym (carried_none it.visits) };
      }

  flow_travels : (number : ℕ) (port : Port) (id : FlowId) (flow : Flow) (packet : List ℕ) (found : Option ℕ)
      → PlansFlow domain readings number port time id flow packet found it → TravelsFlow domain readings number port time id flow packet found it
  flow_travels number port id flow packet found plans =
      let journey = plans.journey in
      let numbers : Numbers = numbers_of domain readings flow number found time in
      record {
        header = plans.header;
        fields = plans.fields;
        numbers = numbers;
        drawn = refl;
        passes = entry_passes domain id flow numbers (is_refused (limit_by found flow.limit))
            (outer_size flow (length packet) (is_some numbers.direct) (is_some numbers.limit)) plans.header.target plans.header.hops
            port.node port.id time it.visits it.end it.exited it.carried (journey.last, journey.reaches, journey.ends) journey.carried;
      }

  flow_plans : (number : ℕ) (port : Port) (id : FlowId) (flow : Flow) (packet : List ℕ) (found : Option ℕ)
      → TravelsFlow domain readings number port time id flow packet found it → PlansFlow domain readings number port time id flow packet found it
  flow_plans number port id flow packet found goes =
      let P : Numbers → Type 0 = λ numbers. PassesEntry domain id flow numbers (is_refused (limit_by found flow.limit))
      (outer_size flow (length packet) (is_some numbers.direct) (is_some numbers.limit)) goes.header.target goes.header.hops
      port.node port.id time it.visits it.end it.exited it.carried in
      let numbers : Numbers = numbers_of domain readings flow number found time in
      let runs = entry_runs domain id flow numbers (is_refused (limit_by found flow.limit))
      (outer_size flow (length packet) (is_some numbers.direct) (is_some numbers.limit)) goes.header.target goes.header.hops
      port.node port.id time it.visits it.end it.exited it.carried (subst P goes.drawn goes.passes) in
      record {
        header = goes.header;
        fields = goes.fields;
        journey = record { last = runs.0.0; reaches = runs.0.1; ends = runs.0.2; carried = runs.1 };
      }

  in_flow_travels : (number : ℕ) (port : Port) (id : FlowId) (at : Option Flow) (packet : List ℕ) (found : Option ℕ)
      → IsSomeAnd at (λ flow. PlansFlow domain readings number port time id flow packet found it)
      → IsSomeAnd at (λ flow. TravelsFlow domain readings number port time id flow packet found it)
  in_flow_travels number port id None packet found plans = plans
  in_flow_travels number port id (Some flow) packet found plans = flow_travels number port id flow packet found plans

  in_flow_plans : (number : ℕ) (port : Port) (id : FlowId) (at : Option Flow) (packet : List ℕ) (found : Option ℕ)
      → IsSomeAnd at (λ flow. TravelsFlow domain readings number port time id flow packet found it)
      → IsSomeAnd at (λ flow. PlansFlow domain readings number port time id flow packet found it)
  in_flow_plans number port id None packet found goes = goes
  in_flow_plans number port id (Some flow) packet found goes = flow_plans number port id flow packet found goes

  module _ (earlier : List Itinerary) where
    by_travels : (admitted : Admit) (port : Port) → PlansBy domain readings earlier time it admitted port → TravelsBy domain readings earlier time it admitted port
    by_travels (admit.Plain packet) port plans = packet_travels port packet.now plans
    by_travels (admit.Drop reason) port plans = plans
    by_travels (admit.Enclose id packet found) port plans =
        in_flow_travels (enclosed_in id.0 earlier) port id (slice_get (flows domain) id.0) packet.now found plans

    by_plans : (admitted : Admit) (port : Port) → TravelsBy domain readings earlier time it admitted port → PlansBy domain readings earlier time it admitted port
    by_plans (admit.Plain packet) port goes = packet_plans port packet.now goes
    by_plans (admit.Drop reason) port goes = goes
    by_plans (admit.Enclose id packet found) port goes =
        in_flow_plans (enclosed_in id.0 earlier) port id (slice_get (flows domain) id.0) packet.now found goes

    at_travels : (admitted : Admit) (at : Option Port) → IsSomeAnd at (PlansBy domain readings earlier time it admitted)
        → IsSomeAnd at (TravelsBy domain readings earlier time it admitted)
    at_travels admitted None plans = plans
    at_travels admitted (Some port) plans = by_travels admitted port plans

    at_plans : (admitted : Admit) (at : Option Port) → IsSomeAnd at (TravelsBy domain readings earlier time it admitted)
        → IsSomeAnd at (PlansBy domain readings earlier time it admitted)
    at_plans admitted None goes = goes
    at_plans admitted (Some port) goes = by_plans admitted port goes

pub Plans-travels : (domain : Domain) (readings : List (List Sample)) (earlier : List Itinerary) (port : PortId) (time : ℕ) (admitted : Admit) (it : Itinerary)
    → Plans domain readings earlier port time admitted it → Travels domain readings earlier port time admitted it
Plans-travels domain readings earlier port time admitted it plans =
    (plans.0, at_travels domain readings time it earlier admitted (slice_get (ports domain) port.0) plans.1)

pub Travels-plans : (domain : Domain) (readings : List (List Sample)) (earlier : List Itinerary) (port : PortId) (time : ℕ) (admitted : Admit) (it : Itinerary)
    → Travels domain readings earlier port time admitted it → Plans domain readings earlier port time admitted it
Travels-plans domain readings earlier port time admitted it goes =
    (goes.0, at_plans domain readings time it earlier admitted (slice_get (ports domain) port.0) goes.1)

-- so they are one
pub Travels-are-plans : (domain : Domain) (readings : List (List Sample)) (earlier : List Itinerary) (port : PortId) (time : ℕ) (admitted : Admit)
    (it : Itinerary) → Plans domain readings earlier port time admitted it ↔ Travels domain readings earlier port time admitted it
Travels-are-plans domain readings earlier port time admitted it =
    (Plans-travels domain readings earlier port time admitted it, Travels-plans domain readings earlier port time admitted it)

-- and what arrives travels in one way
pub Travels-unique : (domain : Domain) (readings : List (List Sample)) (earlier : List Itinerary) (port : PortId) (time : ℕ) (admitted : Admit)
    (it other : Itinerary) → Travels domain readings earlier port time admitted it → Travels domain readings earlier port time admitted other → it ≡ other
Travels-unique domain readings earlier port time admitted it other first second =
    Plans-unique domain readings earlier time it other port admitted (Travels-plans domain readings earlier port time admitted it first)
    (Travels-plans domain readings earlier port time admitted other second)
