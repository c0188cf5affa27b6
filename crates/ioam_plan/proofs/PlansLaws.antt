-- What is planned for a frame is one thing only.
use Rattle.std.proofs.Common.{◌≡◌, ℕ, List, Option, Some, None, IsSomeAnd, slice_get, sym, ◌∙◌, subst}
use Rattle.ioam_clock.specs.declared.sample.Sample.{Sample}
use Rattle.ioam_topo.specs.declared.domain.Domain.{Domain}
use Rattle.ioam_topo.specs.declared.parts.Flow.{Flow}
use Rattle.ioam_topo.specs.declared.parts.Port.{Port}
use Rattle.ioam_topo.specs.declared.ids.FlowId.{FlowId}
use Rattle.ioam_topo.specs.declared.ids.PortId.{PortId}
use Rattle.ioam_topo.specs.Domain.{flows, ports}
use Rattle.ioam_node.specs.declared.answer.Admit.{Admit}
use Rattle.ioam_node.specs.declared.answer.Admit.TheVariants as admit
use Rattle.ioam_node.specs.declared.reason.Reason.{Reason}
use Rattle.ioam_node.proofs.OneAnswerLaws.{IsSame}
use Rattle.ioam_plan.specs.declared.itinerary.Itinerary.{Itinerary}
use Rattle.ioam_plan.specs.declared.stage.Stage.TheVariants.{Enter, At}
use Rattle.ioam_plan.specs.Counted.{enclosed_in}
use Rattle.ioam_plan.specs.Drawn.{numbers_of}
use Rattle.ioam_plan.specs.Journey.{Journey}
use Rattle.ioam_plan.specs.Plans.{Plans, PlansBy, PlansPacket, PlansFlow, PlansDrop, start_of, plain_trip, flow_trip, entry_of}
use Rattle.ioam_plan.proofs.JourneyLaws.{Journey-unique, same_itinerary}

module _ (domain : Domain) (readings : List (List Sample)) (earlier : List Itinerary) (time : ℕ) (it other : Itinerary) (same : it.port ≡ other.port) where
  one_packet : (port : Port) (packet : List ℕ) → PlansPacket domain port time packet it → PlansPacket domain port time packet other → it ≡ other
  one_packet port packet first second =
      let targets : second.header.target ≡ first.header.target = second.fields.target ∙ sym first.fields.target in
      let hops : second.header.hops ≡ first.header.hops = second.fields.hops ∙ sym first.fields.hops in
      let P : ℕ → Type 0 = λ target. Journey domain (plain_trip target packet)
      (At (start_of port time second.header.hops)) other in
      let Q : ℕ → Type 0 = λ limit. Journey domain (plain_trip first.header.target packet) (At (start_of port time limit)) other in
      Journey-unique domain (plain_trip first.header.target packet) (At (start_of port time first.header.hops)) it other same
      first.journey (subst Q hops (subst P targets second.journey))

  one_flow : (number : ℕ) (port : Port) (id : FlowId) (flow : Flow) (packet : List ℕ) (found : Option ℕ)
      → PlansFlow domain readings number port time id flow packet found it
      → PlansFlow domain readings number port time id flow packet found other → it ≡ other
  one_flow number port id flow packet found first second =
      let targets : second.header.target ≡ first.header.target = second.fields.target ∙ sym first.fields.target in
      let hops : second.header.hops ≡ first.header.hops = second.fields.hops ∙ sym first.fields.hops in
      let numbers = numbers_of domain readings flow number found time in
      let P : ℕ → Type 0 = λ target. Journey domain (flow_trip domain id flow numbers target second.header.hops packet)
      (Enter (start_of port time second.header.hops) (entry_of flow found)) other in
      let Q : ℕ → Type 0 = λ limit. Journey domain (flow_trip domain id flow numbers first.header.target limit packet)
      (Enter (start_of port time limit) (entry_of flow found)) other in
      Journey-unique domain (flow_trip domain id flow numbers first.header.target first.header.hops packet)
      (Enter (start_of port time first.header.hops) (entry_of flow found)) it other same first.journey (subst Q hops (subst P targets second.journey))

  one_in_flow : (number : ℕ) (port : Port) (id : FlowId) (at : Option Flow) (packet : List ℕ) (found : Option ℕ)
      → IsSomeAnd at (λ flow. PlansFlow domain readings number port time id flow packet found it)
      → IsSomeAnd at (λ flow. PlansFlow domain readings number port time id flow packet found other) → it ≡ other
  one_in_flow number port id None packet found first second = absurd first
  one_in_flow number port id (Some flow) packet found first second = one_flow number port id flow packet found first second

  one_by : (admitted : Admit) (port : Port) → PlansBy domain readings earlier time it admitted port
      → PlansBy domain readings earlier time other admitted port → it ≡ other
  one_by (admit.Plain packet) port first second = one_packet port packet.now first second
  one_by (admit.Drop reason) port first second =
      same_itinerary it other same (first.none ∙ sym second.none) (first.ends ∙ sym second.ends) (first.exited ∙ sym second.exited)
      (first.carried ∙ sym second.carried)
  one_by (admit.Enclose id packet found) port first second =
      one_in_flow (enclosed_in id.0 earlier) port id (slice_get (flows domain) id.0) packet.now found first second

  one_at : (admitted : Admit) (at : Option Port) → IsSomeAnd at (PlansBy domain readings earlier time it admitted)
      → IsSomeAnd at (PlansBy domain readings earlier time other admitted) → it ≡ other
  one_at admitted None first second = absurd first
  one_at admitted (Some port) first second = one_by admitted port first second

module _ (domain : Domain) (readings : List (List Sample)) (earlier : List Itinerary) (time : ℕ) (it other : Itinerary) where
  -- two answers that are the same but for the places of their octets
  moved : (a b : Admit) (port : Port) → IsSame a b → PlansBy domain readings earlier time it a port → PlansBy domain readings earlier time it b port
  moved (admit.Plain packet) (admit.Plain kept) port same plans =
      let P : List ℕ → Type 0 = λ octets. PlansPacket domain port time octets it in subst P same plans
  moved (admit.Drop reason) (admit.Drop cause) port same plans =
      let P : Reason → Type 0 = λ why. PlansDrop port why it in subst P same plans
  moved (admit.Enclose id packet found) (admit.Enclose way kept limit) port same plans =
      let P : FlowId → Type 0 = λ i. IsSomeAnd (slice_get (flows domain) i.0)
      (λ flow. PlansFlow domain readings (enclosed_in i.0 earlier) port time i flow packet.now found it) in
      let Q : List ℕ → Type 0 = λ octets. IsSomeAnd (slice_get (flows domain) way.0)
      (λ flow. PlansFlow domain readings (enclosed_in way.0 earlier) port time way flow octets found it) in
      let R : Option ℕ → Type 0 = λ number. IsSomeAnd (slice_get (flows domain) way.0)
      (λ flow. PlansFlow domain readings (enclosed_in way.0 earlier) port time way flow kept.now number it) in
      subst R same.2 (subst Q same.1 (subst P same.0 plans))
  moved (admit.Plain packet) (admit.Drop cause) port same plans = absurd same
  moved (admit.Plain packet) (admit.Enclose way kept limit) port same plans = absurd same
  moved (admit.Drop reason) (admit.Plain kept) port same plans = absurd same
  moved (admit.Drop reason) (admit.Enclose way kept limit) port same plans = absurd same
  moved (admit.Enclose id packet found) (admit.Plain kept) port same plans = absurd same
  moved (admit.Enclose id packet found) (admit.Drop cause) port same plans = absurd same

  one_of_same : (a b : Admit) (at : Option Port) → it.port ≡ other.port → IsSame a b → IsSomeAnd at (PlansBy domain readings earlier time it a)
      → IsSomeAnd at (PlansBy domain readings earlier time other b) → it ≡ other
  one_of_same a b None here same first second = absurd first
  one_of_same a b (Some port) here same first second =
      one_by domain readings earlier time it other here b port (moved a b port same first) second

  -- what is planned for a frame, behind the same arrivals
  pub Plans-unique : (port : PortId) (admitted : Admit) → Plans domain readings earlier port time admitted it
      → Plans domain readings earlier port time admitted other → it ≡ other
  Plans-unique port admitted first second =
      one_at domain readings earlier time it other (first.0 ∙ sym second.0) admitted (slice_get (ports domain) port.0) first.1 second.1

  -- and so it is by two answers that are the same
  pub Plans-same : (port : PortId) (a b : Admit) → IsSame a b → Plans domain readings earlier port time a it
      → Plans domain readings earlier port time b other → it ≡ other
  Plans-same port a b same first second =
      one_of_same a b (slice_get (ports domain) port.0) (first.0 ∙ sym second.0) same first.1 second.1
