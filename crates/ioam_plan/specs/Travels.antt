-- How the packet of a frame goes that arrives at a port: as it is, enclosed in a flow, or not at all.
use Rattle.std.specs.Prelude.{◌≡◌, ℕ, ◌+◌, ◌-◌, Bool, false, List, [], ◌∷◌, Option, Some, None, IsSomeAnd, is_some, length, slice_get}
use Rattle.ioam_clock.specs.declared.sample.Sample.{Sample}
use Rattle.ioam_ip.specs.Header.{HasFields}
use Rattle.ioam_ip.specs.declared.packet.Header.{Header}
use Rattle.ioam_topo.specs.Domain.{flows, ports}
use Rattle.ioam_topo.specs.declared.domain.Domain.{Domain}
use Rattle.ioam_topo.specs.declared.ids.FlowId.{FlowId}
use Rattle.ioam_topo.specs.declared.ids.NodeId.{NodeId}
use Rattle.ioam_topo.specs.declared.ids.PortId.{PortId}
use Rattle.ioam_topo.specs.declared.parts.Flow.{Flow}
use Rattle.ioam_topo.specs.declared.parts.Port.{Port}
use Rattle.ioam_node.specs.Choice.{entry_stops, Enters}
use Rattle.ioam_node.specs.declared.answer.Admit.{Admit}
use Rattle.ioam_node.specs.declared.answer.Admit.TheVariants as admit
use Rattle.ioam_tunnel.specs.Enclosed.{address_at}
use Rattle.ioam_tunnel.specs.Limits.{limit_by}
use Rattle.ioam_tunnel.specs.Size.{outer_size}
use Rattle.ioam_tunnel.specs.declared.numbers.Numbers.{Numbers}
use Rattle.ioam_plan.specs.Counted.{enclosed_in}
use Rattle.ioam_plan.specs.Drawn.{numbers_of, is_refused}
use Rattle.ioam_plan.specs.Passes.{IsDropped, GoesOn, PassesPlain, PassesInside}
use Rattle.ioam_plan.specs.Plans.{PlansDrop}
use Rattle.ioam_plan.specs.declared.itinerary.End.{End}
use Rattle.ioam_plan.specs.declared.itinerary.Itinerary.{Itinerary}
use Rattle.ioam_plan.specs.declared.itinerary.Visit.{Visit}

-- a packet that arrives at a port at a time and isn't enclosed: it goes by its own header from the port's node on
pub record TravelsPacket (domain : Domain) (port : Port) (time : ℕ) (packet : List ℕ) (it : Itinerary) : Type 0 where
  pub header : Header
  pub fields : HasFields packet header
  pub passes : PassesPlain domain header.target (length packet) port.node port.id time header.hops it.visits it.end
  pub exited : it.exited ≡ false
  pub carried : it.carried ≡ None

-- a packet of this target and hop limit comes to the node that is to enclose it in a flow with these numbers, so that it has this
-- size: there it is dropped as it is for the first reason that holds, one of which is that it may not be enclosed once more (RFC 2473
-- section 4.1.1), or sent by a link inside an outer packet with the flow's hop limit, its own hop limit one less (section 3)
module _ (domain : Domain) (id : FlowId) (flow : Flow) (numbers : Numbers) (refused : Bool) (size target hops : ℕ) where
  -- from the entry node, reached by this interface at this time, the packet makes these visits, ends so, and was enclosed
  -- with these numbers or not at all
  abbrev pub PassesEntry : NodeId → ℕ → ℕ → List Visit → End → Bool → Option (FlowId × Numbers) → Type 0
  PassesEntry node inward time [] end exited carried =
      IsDropped (entry_stops domain node.0 refused hops (address_at domain flow.exit) size) node end × (exited ≡ false) × (carried ≡ None)
  PassesEntry node inward time (visit ∷ visits) end exited carried =
      GoesOn domain (Enters domain node.0 refused hops (address_at domain flow.exit) size) node inward time visit
      (λ link. PassesInside domain flow.exit size target (hops - 1) link.to link.in_id (time + link.delay) flow.hops visits end exited)
      × (carried ≡ Some (id, numbers))

-- a packet that is to be enclosed in a flow, in which so many were before, and in which this encapsulation limit was found
pub record TravelsFlow (domain : Domain) (readings : List (List Sample)) (number : ℕ) (port : Port) (time : ℕ) (id : FlowId) (flow : Flow)
    (packet : List ℕ) (found : Option ℕ) (it : Itinerary) : Type 0 where
  pub header : Header
  pub fields : HasFields packet header
  pub numbers : Numbers
  pub drawn : numbers ≡ numbers_of domain readings flow number found time
  pub passes : PassesEntry domain id flow numbers (is_refused (limit_by found flow.limit))
      (outer_size flow (length packet) (is_some numbers.direct) (is_some numbers.limit)) header.target header.hops port.node port.id time
      it.visits it.end it.exited it.carried

module _ (domain : Domain) (readings : List (List Sample)) (earlier : List Itinerary) (time : ℕ) (it : Itinerary) where
  -- by what was answered of the frame at the port: one that is dropped there visits no node
  abbrev pub TravelsBy : Admit → Port → Type 0
  TravelsBy (admit.Plain packet) port = TravelsPacket domain port time packet.now it
  TravelsBy (admit.Drop reason) port = PlansDrop port reason it
  TravelsBy (admit.Enclose id packet found) port = IsSomeAnd (slice_get (flows domain) id.0)
      (λ flow. TravelsFlow domain readings (enclosed_in id.0 earlier) port time id flow packet.now found it)

-- so goes the packet of a frame that arrives at a port at a time behind these arrivals
abbrev pub Travels : Domain → List (List Sample) → List Itinerary → PortId → ℕ → Admit → Itinerary → Type 0
Travels domain readings earlier port time admitted it =
    (it.port ≡ port) × IsSomeAnd (slice_get (ports domain) port.0) (TravelsBy domain readings earlier time it admitted)
