-- What is planned for a frame that arrives at a port, by what was answered of it there and by what was enclosed before.
use Rattle.std.specs.Prelude.{◌≡◌, ℕ, ◌-◌, false, List, [], Option, Some, None, IsSomeAnd, is_some, length, slice_get}
use Rattle.ioam_clock.specs.declared.sample.Sample.{Sample}
use Rattle.ioam_ip.specs.Header.{HasFields}
use Rattle.ioam_ip.specs.declared.packet.Header.{Header}
use Rattle.ioam_topo.specs.declared.domain.Domain.{Domain}
use Rattle.ioam_topo.specs.declared.parts.Flow.{Flow}
use Rattle.ioam_topo.specs.declared.parts.Port.{Port}
use Rattle.ioam_topo.specs.declared.ids.FlowId.{FlowId}
use Rattle.ioam_topo.specs.declared.ids.PortId.{PortId}
use Rattle.ioam_topo.specs.Domain.{flows, ports}
use Rattle.ioam_node.specs.declared.reason.Reason.{Reason}
use Rattle.ioam_node.specs.declared.answer.Admit.{Admit}
use Rattle.ioam_node.specs.declared.answer.Admit.TheVariants as admit
use Rattle.ioam_tunnel.specs.Enclosed.{address_at}
use Rattle.ioam_tunnel.specs.Limits.{limit_by}
use Rattle.ioam_tunnel.specs.Size.{outer_size}
use Rattle.ioam_tunnel.specs.declared.numbers.Numbers.{Numbers}
use Rattle.ioam_plan.specs.declared.itinerary.Itinerary.{Itinerary}
use Rattle.ioam_plan.specs.declared.itinerary.End.TheVariants.{Drop}
use Rattle.ioam_plan.specs.declared.stage.Entry.{Entry}
use Rattle.ioam_plan.specs.declared.stage.JourneySpot.{JourneySpot}
use Rattle.ioam_plan.specs.declared.stage.Stage.TheVariants.{Enter, At}
use Rattle.ioam_plan.specs.declared.stage.Trip.{Trip}
use Rattle.ioam_plan.specs.Counted.{enclosed_in}
use Rattle.ioam_plan.specs.Drawn.{numbers_of, is_refused}
use Rattle.ioam_plan.specs.Journey.{Journey}

-- where a packet is when it arrives
abbrev pub start_of : Port → ℕ → ℕ → JourneySpot
start_of port time hops = record { node = port.node; inward = port.id; time = time; hops = hops }

-- ---- a packet that isn't enclosed

-- it goes by its own target and length
abbrev pub plain_trip : ℕ → List ℕ → Trip
plain_trip target packet = record { target = target; size = length packet; inside = None }

-- its own journey, from its port on
pub record PlansPacket (domain : Domain) (port : Port) (time : ℕ) (packet : List ℕ) (itinerary : Itinerary) : Type 0 where
  pub header : Header
  pub fields : HasFields packet header
  pub journey : Journey domain (plain_trip header.target packet) (At (start_of port time header.hops)) itinerary

-- ---- a packet that is to be enclosed in a flow

-- the outer packet goes by the exit's address and its own length; inside, the packet has its target, and its hop limit one less
abbrev pub flow_trip : Domain → FlowId → Flow → Numbers → ℕ → ℕ → List ℕ → Trip
flow_trip domain id flow numbers target hops packet = record {
  target = address_at domain flow.exit;
  size = outer_size flow (length packet) (is_some numbers.direct) (is_some numbers.limit);
  inside = Some (record { flow = id; numbers = numbers; exit = flow.exit; target = target; hops = hops - 1 });
}

-- the outer packet has the flow's hop limit, and it may be that the packet's encapsulation limit forbids it
abbrev pub entry_of : Flow → Option ℕ → Entry
entry_of flow found = record { hops = flow.hops; refused = is_refused (limit_by found flow.limit) }

-- the journey of a packet before which so many were enclosed in its flow, and in which this limit was found
pub record PlansFlow (domain : Domain) (readings : List (List Sample)) (number : ℕ) (port : Port) (time : ℕ) (id : FlowId) (flow : Flow)
    (packet : List ℕ) (found : Option ℕ) (itinerary : Itinerary) : Type 0 where
  pub header : Header
  pub fields : HasFields packet header
  pub journey : Journey domain (flow_trip domain id flow (numbers_of domain readings flow number found time) header.target header.hops packet)
      (Enter (start_of port time header.hops) (entry_of flow found)) itinerary

-- ---- a frame that is dropped where it arrives

-- it visits no other node
pub record PlansDrop (port : Port) (reason : Reason) (itinerary : Itinerary) : Type 0 where
  pub none : itinerary.visits ≡ []
  pub ends : itinerary.end ≡ Drop reason port.node
  pub exited : itinerary.exited ≡ false
  pub carried : itinerary.carried ≡ None

-- ---- any of them

module _ (domain : Domain) (readings : List (List Sample)) (earlier : List Itinerary) (time : ℕ) (itinerary : Itinerary) where
  -- what is planned for a frame at this port, by what was answered of it there: a packet's own journey, none, or a journey in
  -- its flow's tunnel
  abbrev pub PlansBy : Admit → Port → Type 0
  PlansBy (admit.Plain packet) port = PlansPacket domain port time packet.now itinerary
  PlansBy (admit.Drop reason) port = PlansDrop port reason itinerary
  PlansBy (admit.Enclose id packet found) port = IsSomeAnd (slice_get (flows domain) id.0)
      (λ flow. PlansFlow domain readings (enclosed_in id.0 earlier) port time id flow packet.now found itinerary)

-- what is planned for a frame that arrives at a port at a time behind these arrivals
abbrev pub Plans : Domain → List (List Sample) → List Itinerary → PortId → ℕ → Admit → Itinerary → Type 0
Plans domain readings earlier port time admitted itinerary = (itinerary.port ≡ port)
    × IsSomeAnd (slice_get (ports domain) port.0) (PlansBy domain readings earlier time itinerary admitted)
