-- What is true of each node, link and flow, and of a node's data, whatever file they are of.
use Rattle.std.specs.Prelude.{◌≡◌, ◌<◌, ◌≤◌, ◌%◌, ◌^◌, true, is_some, length, take}
use Rattle.std.specs.List.{All}
use Rattle.std.specs.Option.{ForSome}
use Rattle.ioam_data.specs.Kind.{is_entry_type}
use Rattle.ioam_topo.specs.Prefixes.{IsPrefix}
use Rattle.ioam_topo.specs.Types.{is_direct_type, is_edge_type}
use Rattle.ioam_topo.specs.Traces.{own_traces, IsFlowTrace, AreOfOwnSpaces}
use Rattle.ioam_topo.specs.declared.parts.Node.{Node}
use Rattle.ioam_topo.specs.declared.parts.Link.{Link}
use Rattle.ioam_topo.specs.declared.parts.Port.{Port}
use Rattle.ioam_topo.specs.declared.parts.NodeData.{NodeData}
use Rattle.ioam_topo.specs.declared.parts.Flow.{Flow}

-- its id is one of 56 bits, and its list of namespaces is no longer than such a list may be
pub record IsNode (node : Node) : Type 0 where
  pub id_below : node.id < 2 ^ 56
  pub few_spaces : length node.namespaces ≤ 16

-- the ids of its interfaces have 32 bits, and its delay and its MTU are within their bounds
pub record IsLink (link : Link) : Type 0 where
  pub out_below : link.out_id < 2 ^ 32
  pub in_below : link.in_id < 2 ^ 32
  pub delay_most : link.delay ≤ 1000000000
  pub mtu_least : 1280 ≤ link.mtu
  pub mtu_most : link.mtu ≤ 65575

-- the id of its interface has 32 bits
pub record IsPort (port : Port) : Type 0 where
  pub id_below : port.id < 2 ^ 32

-- its prefixes are such, its numbers are within their bounds and its types are allowed, what goes together is there together, and its traces, of which
-- the first is its own, are at most three, each of another namespace; it has none where it has no trace of its own
pub record IsFlow (flow : Flow) : Type 0 where
  pub source : IsPrefix flow.source
  pub target : IsPrefix flow.target
  pub namespace_below : flow.namespace.0 < 2 ^ 16
  pub hops_some : 1 ≤ flow.hops
  pub hops_below : flow.hops < 2 ^ 8
  pub label_most : flow.label ≤ 1048575
  pub trace_type : ForSome flow.trace (λ kind. is_entry_type kind ≡ true)
  pub capacity_some : ForSome flow.capacity (λ n. 1 ≤ n)
  pub capacity_most : ForSome flow.capacity (λ n. n ≤ 61)
  pub trace_room : is_some flow.capacity ≡ is_some flow.trace
  pub own_first : take 1 flow.traces ≡ own_traces flow.namespace flow.trace flow.capacity
  pub few_traces : length flow.traces ≤ 3
  pub traces_sound : All IsFlowTrace flow.traces
  pub traces_apart : AreOfOwnSpaces flow.traces
  pub edge_some : ForSome flow.edge (λ kind. 1 ≤ kind)
  pub edge_type : ForSome flow.edge (λ kind. is_edge_type kind ≡ true)
  pub direct_type : ForSome flow.direct (λ kind. is_direct_type kind ≡ true)
  pub direct_below : ForSome flow.direct (λ kind. kind < 2 ^ 24)
  pub every_some : ForSome flow.every (λ n. 1 ≤ n)
  pub every_most : ForSome flow.every (λ n. n ≤ 1000000)
  pub direct_every : is_some flow.every ≡ is_some flow.direct
  pub direct_id : is_some flow.flow_id ≡ is_some flow.direct
  pub id_below : ForSome flow.flow_id (λ id. id < 2 ^ 32)

-- its numbers are within their bounds, and a schema is there exactly where its snapshot is, in whole words of 4 octets
pub record IsNodeData (row : NodeData) : Type 0 where
  pub wide_most : ForSome row.wide (λ n. n ≤ 9223372036854775807)
  pub schema_most : ForSome row.schema (λ n. n ≤ 16777214)
  pub both : is_some row.snapshot ≡ is_some row.schema
  pub words : ForSome row.snapshot (λ octets. length octets % 4 ≡ 0)
  pub most : ForSome row.snapshot (λ octets. length octets ≤ 180)
