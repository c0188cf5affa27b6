-- A packet that is enclosed leaves the domain behind its exit only, whatever the domain.
use Rattle.std.proofs.Common.{◌≡◌, ℕ, ◌-◌, Bool, true, false, List, [], ◌∷◌, Option, Some, None, length, slice_get, refl, ap, ◌∙◌, subst}
use Rattle.std.specs.Prelude.{⊤, IsSome, IsSomeAnd, Result, Ok, Err, nat_eq, nat_le, nat_lt, is_some, if◌then◌else◌}
use Rattle.ioam_batch.specs.Sample.{Sample}
use Rattle.ioam_ip.specs.Lowered.{lowered}
use Rattle.ioam_node_visit.specs.Choice.{way_by, mtu_of, choice, entry_choice}
use Rattle.ioam_node_visit.specs.Admit.{Admit}
use Rattle.ioam_node_visit.specs.Admit.TheVariants as admit
use Rattle.ioam_node_visit.specs.Reason.{Reason}
use Rattle.ioam_node_visit.specs.Reason.TheVariants as reason
use Rattle.ioam_plan.specs.Journey.{Journey, Reaches, carried_by, sent_in, sent_on, step_at}
use Rattle.ioam_plan.specs.Plans.{PlansBy, PlansFlow}
use Rattle.ioam_plan.specs.declared.itinerary.End.{End}
use Rattle.ioam_plan.specs.declared.itinerary.End.TheVariants.{Left, Drop}
use Rattle.ioam_plan.specs.declared.itinerary.Itinerary.{Itinerary}
use Rattle.ioam_plan.specs.declared.itinerary.Visit.{Visit}
use Rattle.ioam_plan.specs.declared.stage.Inside.{Inside}
use Rattle.ioam_plan.specs.declared.stage.JourneySpot.{JourneySpot}
use Rattle.ioam_plan.specs.declared.stage.Stage.{Stage}
use Rattle.ioam_plan.specs.declared.stage.Stage.TheVariants.{Enter, At, Gone, Out}
use Rattle.ioam_plan.specs.declared.stage.JourneyStep.{JourneyStep}
use Rattle.ioam_plan.specs.declared.stage.JourneyStep.TheVariants.{Goes, Ends}
use Rattle.ioam_plan.specs.declared.stage.Trip.{Trip}
use Rattle.ioam_topo.specs.Domain.{flows, ports, routes}
use Rattle.ioam_topo.specs.Forward.{way_to}
use Rattle.ioam_topo.specs.declared.domain.Domain.{Domain}
use Rattle.ioam_topo.specs.declared.ids.FlowId.{FlowId}
use Rattle.ioam_topo.specs.declared.ids.LinkId.{LinkId}
use Rattle.ioam_topo.specs.declared.ids.PortId.{PortId}
use Rattle.ioam_topo.specs.declared.ids.Way.{Way}
use Rattle.ioam_topo.specs.declared.ids.Way.TheVariants as way
use Rattle.ioam_topo.specs.declared.parts.Flow.{Flow}
use Rattle.ioam_topo.specs.declared.parts.Port.{Port}
use Rattle.ioam_batch.specs.Numbers.{Numbers}
use Rattle.ioam_run_texts.specs.Fate.{Frame, Fate, HasFate}
use Rattle.ioam_run_texts.specs.Texts.{fate_leaves, last_time, leaves_by}
use Rattle.ioam_run_texts.proofs.FateLaws.{plans_of}

-- it didn't leave by a port on its way
abbrev IsIn : Stage → Type 0
IsIn (Gone port) = ⊥
IsIn (Enter spot entry) = ⊤
IsIn (At spot) = ⊤
IsIn (Out node inside) = ⊤

-- where a step leads, it is still in; and if it ends by a port, its tunnel ended before
abbrev StaysIn : JourneyStep → Type 0
StaysIn (Goes visit next) = IsIn next
StaysIn (Ends (Left port) exited) = exited ≡ true
StaysIn (Ends (Drop reason node) exited) = ⊤

module _ (domain : Domain) where
  sent-in : (spot : JourneySpot) (hops : ℕ) (found : Result LinkId Reason) → StaysIn (sent_in domain spot hops found)
  sent-in spot hops (Ok link) = tt
  sent-in spot hops (Err reason) = tt

  -- on the way it is sent by a link, or dropped
  sent-on : (spot : JourneySpot) (hops size : ℕ) (low : Bool) (found : Option Way)
      → StaysIn (sent_on domain spot hops (if low then Err reason.HopLimit else way_by domain true size found))
  sent-on spot hops size true found = tt
  sent-on spot hops size false None = tt
  sent-on spot hops size false (Some (way.Port port)) = tt
  sent-on spot hops size false (Some (way.Link link)) = by-size (nat_lt (mtu_of domain link) size)
    where
      by-size : (big : Bool) → StaysIn (sent_on domain spot hops (if big then Err reason.TooBig else Ok (way.Link link)))
      by-size true = tt
      by-size false = tt

  met : (target size : ℕ) (spot : JourneySpot) (inside : Inside) (here : Bool)
      → StaysIn (if here then Goes (record { place = record { node = spot.node; inward = spot.inward; outward = None }; way = None; time = spot.time }) (Out spot.node inside)
      else sent_on domain spot (spot.hops - 1) (choice domain spot.node.0 true spot.hops target size))
  met target size spot inside true = tt
  met target size spot inside false = sent-on spot (spot.hops - 1) size (nat_le spot.hops 1) (way_to (routes domain) spot.node.0 target)

  out-end : (end : End) → StaysIn (Ends end true)
  out-end (Left port) = refl
  out-end (Drop reason node) = tt

  step-in : (target size : ℕ) (inside : Inside) (stage : Stage) → IsIn stage
      → StaysIn (step_at domain (record { target = target; size = size; inside = Some inside }) stage)
  step-in target size inside (Enter spot entry) is = sent-in spot entry.hops (entry_choice domain spot.node.0 entry.refused spot.hops target size)
  step-in target size inside (At spot) is = met target size spot inside (nat_eq inside.exit.0 spot.node.0)
  step-in target size inside (Gone port) is = absurd is
  step-in target size inside (Out node found) is = out-end _

  module _ (target size : ℕ) (inside : Inside) where
    abbrev trip : Trip
    trip = record { target = target; size = size; inside = Some inside }

    stays : (from : Stage) (visits : List Visit) (last : Stage) → IsIn from → Reaches domain trip from visits last → IsIn last
    stays from [] last is reaches = subst IsIn reaches is
    stays from (visit ∷ visits) last is reaches =
        stays reaches.0 visits last (subst StaysIn reaches.1 (step-in target size inside from is)) reaches.2

    exits : (from : Stage) (itinerary : Itinerary) (port : PortId) → IsIn from → Journey domain trip from itinerary → itinerary.end ≡ Left port
        → itinerary.exited ≡ true
    exits from itinerary port is journey ends =
        let last = stays from itinerary.visits journey.last is journey.reaches in
        let so = journey.ends ∙ ap (λ (e : End). Ends e itinerary.exited) ends in
        subst StaysIn so (step-in target size inside journey.last last)

none-carried : (visits : List Visit) → carried_by visits None ≡ None
none-carried [] = refl
none-carried (visit ∷ visits) = refl

not-some : {A : Type 0} (found : Option A) → IsSome found → found ≡ None → ⊥
not-some None some none = let never : false ≡ true = some in cc
not-some (Some value) some none = cc

module _ (domain : Domain) (readings : List (List Sample)) (earlier : List Itinerary) (time : ℕ) (itinerary : Itinerary) (port : PortId)
    (ends : itinerary.end ≡ Left port) (some : IsSome itinerary.carried) where
  by-flow : (number : ℕ) (from : Port) (id : FlowId) (flow : Option Flow) (packet : List ℕ) (found : Option ℕ)
      → IsSomeAnd flow (λ f. PlansFlow domain readings number from time id f packet found itinerary) → itinerary.exited ≡ true
  by-flow number from id None packet found plans = absurd plans
  by-flow number from id (Some flow) packet found plans = exits domain _ _ _ _ itinerary port tt plans.journey ends

  by-answer : (from : Port) (answer : Admit) → PlansBy domain readings earlier time itinerary answer from → itinerary.exited ≡ true
  by-answer from (admit.Plain packet) plans =
      absurd (not-some itinerary.carried some (plans.journey.carried ∙ none-carried itinerary.visits))
  by-answer from (admit.Drop reason) plans = absurd (not-some itinerary.carried some plans.carried)
  by-answer from (admit.Enclose id packet found) plans = by-flow _ from id (slice_get (flows domain) id.0) packet.now found plans

  by-port : (from : Option Port) (answer : Admit) → IsSomeAnd from (PlansBy domain readings earlier time itinerary answer) → itinerary.exited ≡ true
  by-port None answer plans = absurd plans
  by-port (Some from) answer plans = by-answer from answer plans

-- where the journey of an enclosed packet ends by a port, it reached its exit
pub leaves-exited : (domain : Domain) (readings : List (List Sample)) (earlier : List Itinerary) (frame : Frame) (fate : Fate) (port : PortId)
    → HasFate domain readings earlier frame fate → fate.itinerary.end ≡ Left port → IsSome fate.itinerary.carried → fate.itinerary.exited ≡ true
leaves-exited domain readings earlier frame fate port has ends some =
    by-port domain readings earlier frame.entry.time fate.itinerary port ends some (slice_get (ports domain) frame.port.0) has.answer
    (plans_of domain readings earlier frame fate has).1

leaves-one : (packet : List ℕ) (visits : List Visit) (exited : Bool) (carried : Option (FlowId × Numbers)) → (IsSome carried → exited ≡ true)
    → leaves_by packet visits exited carried
    ≡ record { time = last_time visits; octets = lowered (if is_some carried then 2 else length visits) packet } ∷ []
leaves-one packet visits true None exits = refl
leaves-one packet visits false None exits = refl
leaves-one packet visits exited (Some carried) exits = ap (λ (b : Bool). leaves_by packet visits b (Some carried)) (exits refl)

-- so one packet leaves where a journey ends by a port
pub one-leaves : (domain : Domain) (readings : List (List Sample)) (earlier : List Itinerary) (frame : Frame) (fate : Fate) (port : PortId)
    → HasFate domain readings earlier frame fate → fate.itinerary.end ≡ Left port
    → fate_leaves fate ≡ record {
      time = last_time fate.itinerary.visits;
      octets = lowered (if is_some fate.itinerary.carried then 2 else length fate.itinerary.visits) fate.packet;
    } ∷ []
one-leaves domain readings earlier frame fate port has ends = leaves-one fate.packet fate.itinerary.visits fate.itinerary.exited fate.itinerary.carried
    (λ some. leaves-exited domain readings earlier frame fate port has ends some)
