-- What is known of the extra traces of the entries so far, and of one that was read.
use Rattle.std.specs.Prelude.{◌≡◌, ◌≢◌, ◌<◌, ℕ, true, false, List, map, length, Some, is_some, slice_get, Result, Ok}
use Rattle.std.specs.List.{All, list_any}
use Rattle.toml.specs.Data.{Members}
use Rattle.ioam_topo_values.specs.declared.why.Why.{Why}
use Rattle.ioam_topo_tables.specs.declared.nodes.Nodes.{Nodes}
use Rattle.ioam_topo.specs.declared.parts.Node.{Node}
use Rattle.ioam_topo.specs.declared.parts.Flow.{Flow}
use Rattle.ioam_topo_tables.specs.declared.flows.Flows.{Flows}
use Rattle.ioam_topo.specs.declared.traces.FlowTrace.{FlowTrace}
use Rattle.ioam_topo.specs.Keyed.{is_pair}
use Rattle.ioam_topo.specs.Known.{is_known, IsKnownAtEnds}
use Rattle.ioam_topo.specs.Sound.{IsFlow}
use Rattle.ioam_topo.specs.Kept.{JoinsEnds}
use Rattle.ioam_topo.specs.Traces.{IsFlowTrace, own_traces}
use Rattle.ioam_topo_entries.specs.Goods.{goods, list_of}
use Rattle.ioam_topo_flows.specs.declared.extra_table.Extras.{Extras}
use Rattle.ioam_topo_flows.specs.FlowRead.{look_of}
use Rattle.ioam_topo_flows.specs.ExtraTable.{extra_flow, extra_key, extra_of, times, traced}

-- the place of the flow of an extra trace, and what no two may share
abbrev pub place_of_extra : ℕ × FlowTrace → ℕ
place_of_extra extra = extra.0

-- the flow of an extra trace by its place, and the trace's namespace
abbrev pub key_of_extra : ℕ × FlowTrace → ℕ × ℕ
key_of_extra extra = (extra.0, extra.1.namespace.0)

-- a flow has no traces but its own
abbrev pub OwnAlone : Flow → Type 0
OwnAlone flow = flow.traces ≡ own_traces flow.namespace flow.trace flow.capacity

-- a flow has a trace of its own, and this one is of another namespace, which both its ends know
pub record IsFitting (nodes : List Node) (flow : Flow) (trace : FlowTrace) : Type 0 where
  pub own : is_some flow.trace ≡ true
  pub other : flow.namespace.0 ≢ trace.namespace.0
  pub at_entry : is_known nodes flow.entry.0 trace.namespace.0 ≡ true
  pub at_exit : is_known nodes flow.exit.0 trace.namespace.0 ≡ true

-- these flows, which have no traces but their own, keep what is true of flows
pub record KeepsFlows (nodes : Nodes) (flows : Flows) : Type 0 where
  pub count : length flows.names ≡ length flows.items.items
  pub own : All OwnAlone flows.items.items
  pub joined : All (JoinsEnds (length nodes.items.items)) flows.items.items
  pub sound : All IsFlow flows.items.items
  pub known : All (IsKnownAtEnds nodes.items.items) flows.items.items

-- behind these nodes and flows
module _ (nodes : Nodes) (flows : Flows) where
  -- the flow of an entry, behind these flows and nodes
  abbrev pub flow_behind : Members → Result ℕ Why
  flow_behind = extra_flow flows.names (map look_of flows.items.items) (map list_of nodes.items.items)

  -- what no two extra traces share, behind these flows and nodes
  abbrev pub key_behind : Members → Result (ℕ × ℕ) Why
  key_behind = extra_key flows.names (map look_of flows.items.items) (map list_of nodes.items.items)

  -- the extra trace of an entry, behind these flows and nodes
  abbrev pub extra_behind : Members → Result (ℕ × FlowTrace) Why
  extra_behind = extra_of flows.names (map look_of flows.items.items) (map list_of nodes.items.items)

  -- these are the extra traces of these entries, and the flows with them keep what is true of flows
  pub record HoldsExtras (entries : List Members) (extras : Extras) : Type 0 where
    pub items : extras.items.items ≡ goods extra_behind entries
    pub places : extras.places.items ≡ goods flow_behind entries
    pub keys : extras.taken.keys ≡ goods key_behind entries
    pub placed : extras.places.items ≡ map place_of_extra extras.items.items
    pub keyed : extras.taken.keys ≡ map key_of_extra extras.items.items
    pub within : All (λ extra. extra.0 < length flows.items.items) extras.items.items
    pub base : KeepsFlows nodes flows
    pub sound : All IsFlow (traced 0 flows.items.items extras.items.items)
    pub known : All (IsKnownAtEnds nodes.items.items) (traced 0 flows.items.items extras.items.items)

  -- this is the extra trace of an entry, for which its flow has room, and its namespace is known to both ends and is none of the flow's
  pub record IsNewExtra (extras : Extras) (m : Members) (extra : ℕ × FlowTrace) : Type 0 where
    pub is : extra_behind m ≡ Ok extra
    pub flow_is : flow_behind m ≡ Ok extra.0
    pub key_is : key_behind m ≡ Ok (key_of_extra extra)
    pub within : extra.0 < length flows.names
    pub room : times extra.0 extras.places.items < 2
    pub new_key : list_any (is_pair extra.0 extra.1.namespace.0) extras.taken.keys ≡ false
    pub sound : IsFlowTrace extra.1
    pub fits : (flow : Flow) → slice_get flows.items.items extra.0 ≡ Some flow → JoinsEnds (length nodes.items.items) flow → IsFitting nodes.items.items flow extra.1
