-- How a packet goes from node to node: a list of visits, and an end. Of each visit the list says the node, the interfaces by which
-- the packet comes and goes, the way by which it is sent, if it is, and the time. At each node the first of these holds:
--   the packet is in a tunnel that ends here: it is taken out, which is its last visit, and leaves by a port of the node or is dropped
--   there (RFC 2473 section 3);
--   there are reasons to drop it: it is dropped for the first of them, and this node is no visit of the list;
--   its way is a port of the node: it leaves the domain there, and this is its last visit;
--   its way is a link from the node: its next node is at the link's far end, where it comes the link's delay later, by the link's
--   interface there, and with a hop limit one less (RFC 8200 section 3).
-- Inside a tunnel all this goes by the outer header: the target is the exit's address, the size that of the outer packet.
use Rattle.std.specs.Prelude.{◌≡◌, ◌≢◌, ◌⊎◌, ℕ, ◌+◌, ◌-◌, Bool, true, false, List, [], ◌∷◌, Option, Some, None, slice_get}
use Rattle.ioam_topo.specs.Domain.{links, ports}
use Rattle.ioam_topo.specs.declared.domain.Domain.{Domain}
use Rattle.ioam_topo.specs.declared.ids.LinkId.{LinkId}
use Rattle.ioam_topo.specs.declared.ids.NodeId.{NodeId}
use Rattle.ioam_topo.specs.declared.ids.PortId.{PortId}
use Rattle.ioam_topo.specs.declared.ids.Way.{Way}
use Rattle.ioam_topo.specs.declared.ids.Way.TheVariants as way
use Rattle.ioam_topo.specs.declared.parts.Link.{Link}
use Rattle.ioam_topo.specs.declared.parts.Port.{Port}
use Rattle.ioam_node.specs.Choice.{stops, Goes, exit_stops, Leaves}
use Rattle.ioam_node.specs.Order.{Stop, IsFirst}
use Rattle.ioam_node.specs.declared.reason.Reason.{Reason}
use Rattle.ioam_tunnel.specs.Enclosed.{address_at}
use Rattle.ioam_plan.specs.declared.itinerary.End.{End}
use Rattle.ioam_plan.specs.declared.itinerary.End.TheVariants.{Left, Drop}
use Rattle.ioam_plan.specs.declared.itinerary.Visit.{Visit}

-- the visit of a packet that came to a node by the interface with this id at this time, in nanoseconds
abbrev pub visit_at : NodeId → ℕ → ℕ → Option Way → Option ℕ → Visit
visit_at node inward time sent outward = record { place = record { node = node; inward = inward; outward = outward }; way = sent; time = time }

-- the packet is dropped at a node: of these stops this is the first that holds
abbrev pub IsDropped : List Stop → NodeId → End → Type 0
IsDropped rows node end = (reason : Reason) × IsFirst rows reason × (end ≡ Drop reason node)

module _ (domain : Domain) where
  -- the port with this place in the file is one of this node
  abbrev pub IsPortOf : NodeId → PortId → Port → Type 0
  IsPortOf node id port = (slice_get (ports domain) id.0 ≡ Some port) × (port.node ≡ node)

  -- the packet is sent out by a port of the node, and this is its last visit
  pub record GoesOut (Sent : PortId → Type 0) (node : NodeId) (inward time : ℕ) (visit : Visit) (visits : List Visit) (end : End) : Type 0 where
    pub id : PortId
    pub port : Port
    pub of_node : IsPortOf node id port
    pub sent : Sent id
    pub visited : visit ≡ visit_at node inward time (Some (way.Port id)) (Some port.id)
    pub last : visits ≡ []
    pub leaves : end ≡ Left id

  -- the packet is sent by a link from the node, at whose far end it goes on
  pub record GoesOn (Sent : LinkId → Type 0) (node : NodeId) (inward time : ℕ) (visit : Visit) (Follows : Link → Type 0) : Type 0 where
    pub id : LinkId
    pub link : Link
    pub there : slice_get (links domain) id.0 ≡ Some link
    pub of_node : link.from ≡ node
    pub sent : Sent id
    pub visited : visit ≡ visit_at node inward time (Some (way.Link id)) (Some link.out_id)
    pub follows : Follows link

  -- a packet of this target and size that isn't enclosed comes to a node with this hop limit
  module _ (target size : ℕ) where
    -- from this node, reached by this interface at this time with this hop limit, the packet makes these visits and then ends
    -- so
    abbrev pub PassesPlain : NodeId → ℕ → ℕ → ℕ → List Visit → End → Type 0
    PassesPlain node inward time hops [] end = IsDropped (stops domain node.0 false hops target size) node end
    PassesPlain node inward time hops (visit ∷ visits) end =
        GoesOut (λ id. Goes domain node.0 false hops target size (way.Port id)) node inward time visit visits end
        ⊎ GoesOn (λ id. Goes domain node.0 false hops target size (way.Link id)) node inward time visit
        (λ link. PassesPlain link.to link.in_id (time + link.delay) (hops - 1) visits end)

  -- a packet of this target and hop limit came out of its tunnel at a node: by a port of that node alone it leaves
  abbrev pub ComesOut : ℕ → ℕ → NodeId → End → Type 0
  ComesOut target hops node end =
      ((id : PortId) × (port : Port) × IsPortOf node id port × Leaves domain node.0 hops target id × (end ≡ Left id))
      ⊎ IsDropped (exit_stops domain node.0 hops target) node end

  -- an outer packet of this size comes to a node on its way to the exit of its tunnel with this hop limit; the packet inside has a
  -- target and a hop limit of its own; `exited` says whether it reached the exit
  module _ (exit : NodeId) (size target inner : ℕ) where
    -- from this node, reached by this interface at this time with this outer hop limit, the outer packet makes these visits
    -- and the packet ends so
    abbrev pub PassesInside : NodeId → ℕ → ℕ → ℕ → List Visit → End → Bool → Type 0
    PassesInside node inward time hops [] end exited =
        (node ≢ exit) × IsDropped (stops domain node.0 true hops (address_at domain exit) size) node end × (exited ≡ false)
    PassesInside node inward time hops (visit ∷ visits) end exited =
        ((node ≡ exit) × (visit ≡ visit_at node inward time None None) × (visits ≡ []) × ComesOut target inner node end × (exited ≡ true))
        ⊎ ((node ≢ exit) × GoesOn (λ id. Goes domain node.0 true hops (address_at domain exit) size (way.Link id)) node inward time visit
        (λ link. PassesInside link.to link.in_id (time + link.delay) (hops - 1) visits end exited))
