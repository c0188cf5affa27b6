-- The journey of a packet through a domain. At each node its way is chosen by the node's routes and the packet's hop limit, target
-- and size; a link leads to the next node, its delay later and with the hop limit one less (RFC 8200 section 3), and a port leads out
-- of the domain. A packet that is enclosed goes by its outer header: the node where it enters its tunnel sends it with the flow's hop
-- limit, the node where the tunnel ends takes it out, and by that node's ports alone it leaves (RFC 2473 section 3).
use Rattle.std.specs.Prelude.{◌≡◌, ℕ, ◌+◌, ◌-◌, true, false, nat_eq, if◌then◌else◌, List, [], ◌∷◌, Option, Some, None, slice_get, Result, Ok, Err}
use Rattle.ioam_topo.specs.declared.domain.Domain.{Domain}
use Rattle.ioam_topo.specs.declared.parts.Link.{Link}
use Rattle.ioam_topo.specs.declared.ids.NodeId.{NodeId}
use Rattle.ioam_topo.specs.declared.ids.LinkId.{LinkId}
use Rattle.ioam_topo.specs.declared.ids.PortId.{PortId}
use Rattle.ioam_topo.specs.declared.ids.FlowId.{FlowId}
use Rattle.ioam_topo.specs.declared.ids.Way.{Way}
use Rattle.ioam_topo.specs.declared.ids.Way.TheVariants as way
use Rattle.ioam_topo.specs.Domain.{links}
use Rattle.ioam_tunnel.specs.declared.numbers.Numbers.{Numbers}
use Rattle.ioam_node.specs.declared.reason.Reason.{Reason}
use Rattle.ioam_node.specs.Choice.{choice, entry_choice, exit_choice}
use Rattle.ioam_node.specs.Outward.{outward_of}
use Rattle.ioam_plan.specs.declared.itinerary.Itinerary.{Itinerary}
use Rattle.ioam_plan.specs.declared.itinerary.Visit.{Visit}
use Rattle.ioam_plan.specs.declared.itinerary.End.{End}
use Rattle.ioam_plan.specs.declared.itinerary.End.TheVariants.{Left, Drop}
use Rattle.ioam_plan.specs.declared.stage.Inside.{Inside}
use Rattle.ioam_plan.specs.declared.stage.JourneySpot.{JourneySpot}
use Rattle.ioam_plan.specs.declared.stage.Stage.{Stage}
use Rattle.ioam_plan.specs.declared.stage.Stage.TheVariants.{Enter, At, Gone, Out}
use Rattle.ioam_plan.specs.declared.stage.JourneyStep.{JourneyStep}
use Rattle.ioam_plan.specs.declared.stage.JourneyStep.TheVariants.{Goes, Ends}
use Rattle.ioam_plan.specs.declared.stage.Trip.{Trip}

-- none where the packet isn't sent on
abbrev pub outward_by : Domain → Option Way → Option ℕ
outward_by domain None = None
outward_by domain (Some sent) = outward_of domain sent

-- the visit at a spot from which the packet is sent by a way, if it is
abbrev pub visit_by : Domain → JourneySpot → Option Way → Visit
visit_by domain spot sent = record {
  place = record { node = spot.node; inward = spot.inward; outward = outward_by domain sent };
  way = sent;
  time = spot.time;
}

-- the spot at the far end of a link, which the packet crosses with this hop limit
abbrev pub crossed : JourneySpot → ℕ → Option Link → JourneySpot
crossed spot hops None = spot
crossed spot hops (Some link) = record { node = link.to; inward = link.in_id; time = spot.time + link.delay; hops = hops }

-- where a link leads
abbrev pub across : Domain → JourneySpot → ℕ → LinkId → Stage
across domain spot hops link = At (crossed spot hops (slice_get (links domain) link.0))

-- where a way leads
abbrev pub led : Domain → JourneySpot → ℕ → Way → Stage
led domain spot hops (way.Link link) = across domain spot hops link
led domain spot hops (way.Port port) = Gone port

-- the packet is sent with this hop limit by a way, or dropped
abbrev pub sent_on : Domain → JourneySpot → ℕ → Result Way Reason → JourneyStep
sent_on domain spot hops (Ok sent) = Goes (visit_by domain spot (Some sent)) (led domain spot hops sent)
sent_on domain spot hops (Err reason) = Ends (Drop reason spot.node) false

-- where it enters its tunnel it is sent by a link, or dropped
abbrev pub sent_in : Domain → JourneySpot → ℕ → Result LinkId Reason → JourneyStep
sent_in domain spot hops (Ok link) = Goes (visit_by domain spot (Some (way.Link link))) (across domain spot hops link)
sent_in domain spot hops (Err reason) = Ends (Drop reason spot.node) false

-- it leaves by a port, or is dropped
abbrev pub end_by : NodeId → Result PortId Reason → End
end_by node (Ok port) = Left port
end_by node (Err reason) = Drop reason node

-- what becomes of the packet at a node where it doesn't enter its tunnel: the node at which the tunnel ends takes it out
abbrev pub met_at : Domain → ℕ → ℕ → JourneySpot → Option Inside → JourneyStep
met_at domain target size spot None = sent_on domain spot (spot.hops - 1) (choice domain spot.node.0 false spot.hops target size)
met_at domain target size spot (Some inside) =
    if nat_eq inside.exit.0 spot.node.0
    then Goes (visit_by domain spot None) (Out spot.node inside)
    else sent_on domain spot (spot.hops - 1) (choice domain spot.node.0 true spot.hops target size)

-- what is enclosed: a packet that is visited, so that it isn't dropped where it would enter its tunnel
abbrev pub carried_by : List Visit → Option Inside → Option (FlowId × Numbers)
carried_by [] inside = None
carried_by (visit ∷ visits) None = None
carried_by (visit ∷ visits) (Some inside) = Some (inside.flow, inside.numbers)

module _ (domain : Domain) (trip : Trip) where
  -- what becomes of the packet at a stage: a visit from which it goes on to another, or its end, after it reached its exit or before
  abbrev pub step_at : Stage → JourneyStep
  step_at (Enter spot entry) =
      sent_in domain spot entry.hops (entry_choice domain spot.node.0 entry.refused spot.hops trip.target trip.size)
  step_at (At spot) = met_at domain trip.target trip.size spot trip.inside
  step_at (Gone port) = Ends (Left port) false
  step_at (Out node inside) = Ends (end_by node (exit_choice domain node.0 inside.hops inside.target)) true

  -- these visits lead from a stage to another
  abbrev pub Reaches : Stage → List Visit → Stage → Type 0
  Reaches from [] to = from ≡ to
  Reaches from (visit ∷ visits) to = (next : Stage) × (step_at from ≡ Goes visit next) × Reaches next visits to

  -- from a stage on the packet is visited so, and ends so
  pub record Journey (start : Stage) (itinerary : Itinerary) : Type 0 where
    pub last : Stage
    pub reaches : Reaches start itinerary.visits last
    pub ends : step_at last ≡ Ends itinerary.end itinerary.exited
    pub carried : itinerary.carried ≡ carried_by itinerary.visits trip.inside
