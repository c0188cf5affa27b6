-- What an entry node puts around a packet of a flow (RFC 2473 section 3, RFC 9197 sections 4.4 and 4.6, RFC 9326 section 3.2).
use Rattle.std.specs.Prelude.{ℕ, ◌^◌, ◌<◌, ◌≤◌, Bool, true, false, IsTrue, if◌then◌else◌, List, [], ◌∷◌, ◌++◌, length, map, Option, Some, None, is_some, slice_get}
use Rattle.ioam_data.specs.Written.{seconds_of, fraction_of}
use Rattle.ioam_data.specs.declared.namespace.Namespace.{Namespace}
use Rattle.ioam_dex.specs.Direct.{direct_octets}
use Rattle.ioam_dex.specs.declared.direct.Direct.{Direct}
use Rattle.ioam_edge.specs.Edge.{asks, edge_octets}
use Rattle.ioam_edge.specs.declared.edge.Edge.{Edge}
use Rattle.ioam_ip.specs.Header.{class_of}
use Rattle.ioam_ip.specs.Laid.{Part}
use Rattle.ioam_ip.specs.Lowered.{lowered}
use Rattle.ioam_topo.specs.Domain.{nodes, flows}
use Rattle.ioam_topo.specs.declared.domain.Domain.{Domain}
use Rattle.ioam_topo.specs.declared.ids.FlowId.{FlowId}
use Rattle.ioam_topo.specs.declared.ids.NodeId.{NodeId}
use Rattle.ioam_topo.specs.declared.parts.Flow.{Flow}
use Rattle.ioam_topo.specs.declared.parts.Node.{Node}
use Rattle.ioam_topo.specs.declared.traces.FlowTrace.{FlowTrace}
use Rattle.ioam_tunnel.specs.declared.numbers.Numbers.{Numbers}
use Rattle.ioam_tunnel.specs.Size.{outer_size}
use Rattle.ioam_tunnel.specs.Wire.{Room, Tunnel}

-- the trace of a flow
abbrev pub room_of : FlowTrace → Room
room_of trace = record { namespace = trace.namespace.0; kind = trace.kind; capacity = trace.capacity }

-- ---- direct export

-- the data of a packet with this sequence number: Extension-Flags say that the flow's id and the number follow
abbrev pub direct_of : Flow → ℕ → ℕ → Direct
direct_of flow kind seq = record { namespace = flow.namespace; flags = 0; ext = 0xC0; kind = kind; flow = flow.flow_id; seq = Some seq }

-- the option, where the flow has direct exports and the packet has a number: the type 0x11, and as its data a
-- reserved octet, the IOAM-Option-Type 4 and the direct export data
abbrev pub direct_parts : Flow → Option ℕ → Option ℕ → List Part
direct_parts flow (Some kind) (Some seq) = record { kind = 0x11; body = 0 ∷ 4 ∷ direct_octets (direct_of flow kind seq) 0 } ∷ []
direct_parts flow (Some kind) None = []
direct_parts flow None seq = []

-- ---- edge to edge

-- a number where a type asks for it
abbrev pub if_asked : ℕ → ℕ → ℕ → Option ℕ
if_asked kind bit number = if asks kind bit then Some number else None

-- the data of a type: the packet's number in its flow as the one or the other sequence number, and its stamp
abbrev pub edge_of : Namespace → ℕ → Numbers → Edge
edge_of namespace kind numbers = record {
  namespace = namespace;
  kind = kind;
  seq64 = if_asked kind 0 numbers.number;
  seq32 = if_asked kind 1 numbers.number;
  seconds = if_asked kind 2 (seconds_of numbers.stamp);
  fraction = if_asked kind 3 (fraction_of numbers.stamp);
}

-- the option, where the flow has edge-to-edge data: the type 0x11, and as its data a reserved octet, the
-- IOAM-Option-Type 3 and the edge-to-edge data
abbrev pub edge_parts : Namespace → Option ℕ → Numbers → List Part
edge_parts namespace None numbers = []
edge_parts namespace (Some kind) numbers = record { kind = 0x11; body = 0 ∷ 3 ∷ edge_octets (edge_of namespace kind numbers) } ∷ []

-- ---- the tunnel

-- whether there are options
abbrev pub has_parts : List Part → Bool
has_parts [] = false
has_parts (part ∷ parts) = true

-- a Tunnel Encapsulation Limit, where there is one: an option of type 4 with one data octet
abbrev pub limit_parts : Option ℕ → List Part
limit_parts None = []
limit_parts (Some limit) = record { kind = 4; body = limit ∷ [] } ∷ []

-- the address of a node; 0 of none
abbrev pub address_of : Option Node → ℕ
address_of None = 0
address_of (Some node) = node.address

-- the address of a node of a domain
abbrev pub address_at : Domain → NodeId → ℕ
address_at domain id = address_of (slice_get (nodes domain) id.0)

-- the tunnel of a packet of a flow between two addresses: traffic class of the packet, label and hop limit of the flow
abbrev pub tunnel_between : ℕ → ℕ → Flow → Numbers → List ℕ → Tunnel
tunnel_between source target flow numbers packet = record {
  class = class_of packet;
  label = flow.label;
  source = source;
  target = target;
  hops = flow.hops;
  traces = map room_of flow.traces;
  others = direct_parts flow flow.direct numbers.direct;
  targets = limit_parts numbers.limit ++ edge_parts flow.namespace flow.edge numbers;
  inner = lowered 1 packet;
}

-- the tunnel of a packet of the flow of an id, from the flow's entry node to its exit node; an id that is none of the
-- domain's has none, and that case is of no use
abbrev pub tunnel_by : Domain → Option Flow → Numbers → List ℕ → Tunnel
tunnel_by domain None numbers packet =
    record { class = 0; label = 0; source = 0; target = 0; hops = 0; traces = []; others = []; targets = []; inner = packet }
tunnel_by domain (Some flow) numbers packet = tunnel_between (address_at domain flow.entry) (address_at domain flow.exit) flow numbers packet

-- the tunnel of a packet of the flow of an id, with these numbers
abbrev pub tunnel_of : Domain → FlowId → Numbers → List ℕ → Tunnel
tunnel_of domain id numbers packet = tunnel_by domain (slice_get (flows domain) id.0) numbers packet

-- ---- when a packet may be enclosed

-- the packet carries direct export data only where the flow has them, its number is one of 32 bits, and the outer
-- packet is no longer than a packet can be
pub record MayEnclose (flow : Flow) (numbers : Numbers) (packet : List ℕ) : Type 0 where
  pub direct : IsTrue (is_some numbers.direct) → IsTrue (is_some flow.direct)
  pub number : numbers.number < 2 ^ 32
  pub size : outer_size flow (length packet) (is_some numbers.direct) (is_some numbers.limit) ≤ 65575
