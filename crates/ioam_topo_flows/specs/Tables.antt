-- The tables of what nodes and flows record, behind the nodes of a file.
use Rattle.std.specs.Prelude.{◌≡◌, ◌≤◌, ℕ, codes, List, length, map, Result}
use Rattle.std.specs.List.{All}
use Rattle.toml.specs.Data.{Members, get_member}
use Rattle.ioam_data.specs.declared.namespace.Namespace.{Namespace}
use Rattle.ioam_topo_values.specs.declared.why.Why.{Why}
use Rattle.ioam_topo_tables.specs.declared.nodes.Nodes.{Nodes}
use Rattle.ioam_topo.specs.declared.parts.Flow.{Flow}
use Rattle.ioam_topo.specs.declared.parts.NodeData.{NodeData}
use Rattle.ioam_topo_tables.specs.declared.flows.Flows.{Flows}
use Rattle.ioam_topo_tables.specs.Kept.{FlowsKept}
use Rattle.ioam_topo.specs.Sound.{IsFlow}
use Rattle.ioam_topo_entries.specs.declared.words.Table.TheVariants.{DataTable, FlowTable, ExtraTable}
use Rattle.ioam_topo_entries.specs.declared.fault.DomainFault.{DomainFault}
use Rattle.ioam_topo_entries.specs.Faults.{table_faults}
use Rattle.ioam_topo_entries.specs.Goods.{goods, list_of}
use Rattle.ioam_topo_flows.specs.DataTable.{data_entries, data_of, data_faults}
use Rattle.ioam_topo_flows.specs.FlowTable.{FlowLook, flow_entries, flow_of, flow_name, flow_look, flow_faults}
use Rattle.ioam_topo_flows.specs.FlowRead.{look_of}
use Rattle.ioam_topo_flows.specs.ExtraTable.{extra_entries, extra_of, extra_faults, traced}

-- `nodes` are the names of the nodes, and `lists` the namespaces that these list
module _ (nodes : List (List ℕ)) (lists : List (Result (List Namespace) Why)) (t : Members) where
  -- the node data of the file, in order
  abbrev pub data_behind : List NodeData
  data_behind = goods (data_of nodes) (data_entries t)

  -- the names of the flows, and what is known of each
  abbrev pub flow_names : List (List ℕ)
  flow_names = goods flow_name (flow_entries t)

  -- what is known of the ends, the namespace and the trace of each flow
  abbrev pub flow_looks : List FlowLook
  flow_looks = goods (flow_look nodes lists) (flow_entries t)

  -- the flows of the file, in order, each with its extra traces behind its own
  abbrev pub flows_behind : List Flow
  flows_behind = traced 0 (goods (flow_of nodes lists) (flow_entries t)) (goods (extra_of flow_names flow_looks lists) (extra_entries t))

  -- the faults of the table `data`, of no more than 4,096 entries
  abbrev pub data_table_faults : List DomainFault
  data_table_faults = table_faults DataTable 4096 (get_member (codes "data") t) (data_faults nodes)

  -- the faults of no more than so many flows, and of no more than so many extra traces
  abbrev pub flow_table_faults : ℕ → List DomainFault
  flow_table_faults most = table_faults FlowTable most (get_member (codes "flow") t) (flow_faults nodes lists)

  -- the faults of no more than so many extra traces
  abbrev pub extra_table_faults : ℕ → List DomainFault
  extra_table_faults most = table_faults ExtraTable most (get_member (codes "extra") t) (extra_faults flow_names flow_looks lists)

-- the faults of the extra traces behind nodes and flows that were read
abbrev pub extra_faults_behind : Nodes → Flows → Members → ℕ → List DomainFault
extra_faults_behind nodes flows t most = table_faults ExtraTable most (get_member (codes "extra") t)
    (extra_faults flows.names (map look_of flows.items.items) (map list_of nodes.items.items))

-- these are the flows of a file, of which there may be so many, and they keep what is true of flows
pub record AreFlows (nodes : Nodes) (lists : List (Result (List Namespace) Why)) (t : Members) (most : ℕ) (flows : Flows) : Type 0 where
  pub are : flows.items.items ≡ flows_behind nodes.names lists t
  pub kept : FlowsKept nodes.items.items flows
  pub sound : All IsFlow flows.items.items
  pub few : length flows.items.items ≤ most
