-- What is known of the flows of the entries so far, and of one that was read.
use Rattle.std.specs.Prelude.{◌≡◌, ℕ, false, List, [], map, Result, Ok}
use Rattle.std.specs.List.{list_any}
use Rattle.std.specs.Str.{bytes_eq}
use Rattle.toml.specs.Data.{Members}
use Rattle.ioam_data.specs.declared.namespace.Namespace.{Namespace}
use Rattle.ioam_topo_values.specs.declared.why.Why.{Why}
use Rattle.ioam_topo.specs.declared.parts.Flow.{Flow}
use Rattle.ioam_topo_tables.specs.declared.flows.Flows.{Flows}
use Rattle.ioam_topo_flows.specs.declared.flow_parts.Exporting.{Exporting}
use Rattle.ioam_topo_entries.specs.Goods.{goods, kept}
use Rattle.ioam_topo.specs.Keyed.{pairs_of, IsNewId}
use Rattle.ioam_topo_tables.specs.Flows.{name_of_flow, ids_of_flows}
use Rattle.ioam_topo_flows.specs.FlowParts.{exporting_of}
use Rattle.ioam_topo_flows.specs.FlowTable.{FlowLook, flow_of, flow_name, flow_look, flow_key, id_key}

-- what a flow that was read says of its ends, its namespace and its own trace
abbrev pub look_of : Flow → FlowLook
look_of flow = record { entry = Ok flow.entry.0; exit = Ok flow.exit.0; space = Ok flow.namespace.0; trace = Ok flow.trace }

-- these are the exports of an entry in a namespace, and their id is not among those of the namespace
pub record IsNewExport (space : ℕ) (seen : List (ℕ × ℕ)) (m : Members) (e : Exporting) : Type 0 where
  pub is : exporting_of m ≡ Ok e
  pub key_is : kept (id_key (Ok space) m) [] ≡ pairs_of space e.flow_id
  pub new_id : IsNewId space e.flow_id seen

module _ (nodes : List (List ℕ)) (lists : List (Result (List Namespace) Why)) where
  -- these are the flows of these entries
  pub record HoldsFlows (entries : List Members) (flows : Flows) : Type 0 where
    pub items : flows.items.items ≡ goods (flow_of nodes lists) entries
    pub names : flows.names ≡ goods flow_name entries
    pub keys : flows.taken.keys ≡ goods (flow_key nodes lists) entries
    pub looks : map look_of flows.items.items ≡ goods (flow_look nodes lists) entries
    pub named : flows.names ≡ map name_of_flow flows.items.items
    pub keyed : flows.taken.keys ≡ ids_of_flows flows.items.items

  -- this is the flow of an entry, and nothing of it is among the others
  pub record IsNewFlow (flows : Flows) (m : Members) (text : List ℕ) (flow : Flow) : Type 0 where
    pub name : flow.name ≡ text
    pub is : flow_of nodes lists m ≡ Ok flow
    pub name_is : flow_name m ≡ Ok flow.name
    pub look_is : flow_look nodes lists m ≡ Ok (look_of flow)
    pub new_name : list_any (bytes_eq text) flows.names ≡ false
    pub key_is : kept (flow_key nodes lists m) [] ≡ pairs_of flow.namespace.0 flow.flow_id
    pub new_id : IsNewId flow.namespace.0 flow.flow_id flows.taken.keys
