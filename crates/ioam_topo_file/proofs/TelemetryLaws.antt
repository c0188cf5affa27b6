-- Laws of the node data and the flows of a file, behind nodes that were read.
use Rattle.std.proofs.Common.{◌≡◌, ◌≤◌, ℕ, List, [], ◌++◌, length, codes, map, ap, sym, ◌∙◌, subst, arith}
use Rattle.std.specs.List.{All}
use Rattle.toml.specs.Data.{Members, get_member}
use Rattle.ioam_topo_tables.specs.declared.nodes.Nodes.{Nodes}
use Rattle.ioam_topo_tables.specs.declared.data_rows.DataRows.{DataRows}
use Rattle.ioam_topo_tables.specs.declared.flows.Flows.{Flows}
use Rattle.ioam_topo.specs.declared.parts.NodeData.{NodeData}
use Rattle.ioam_topo_tables.specs.declared.routes.Parts.{Parts}
use Rattle.ioam_topo_tables.specs.declared.telemetry.Telemetry.{Telemetry}
use Rattle.ioam_topo.specs.Keyed.{name_of_node}
use Rattle.ioam_topo.specs.Kept.{IsOfNode}
use Rattle.ioam_topo_tables.specs.Kept.{DataKept}
use Rattle.ioam_topo.proofs.KeyLaws.{length_map}
use Rattle.ioam_topo_entries.specs.declared.fault.DomainFault.{DomainFault}
use Rattle.ioam_topo_entries.specs.declared.words.Table.TheVariants.{DataTable}
use Rattle.ioam_topo_entries.specs.Goods.{goods, list_of}
use Rattle.ioam_topo_entries.proofs.GoodsLaws.{goods_all}
use Rattle.ioam_topo_entries.proofs.TableLaws.{front_none, few_entries}
use Rattle.ioam_topo_network.specs.NodeRead.{HoldsNodes}
use Rattle.ioam_topo_network.specs.Places.{node_entries, node_names, node_lists, HoldsParts}
use Rattle.ioam_topo_flows.specs.DataRead.{HoldsData}
use Rattle.ioam_topo_flows.specs.DataTable.{data_entries, data_of, data_faults}
use Rattle.ioam_topo_flows.specs.Tables.{data_table_faults, flow_table_faults, extra_table_faults, AreFlows}
use Rattle.ioam_topo_flows.proofs.DataKept.{data_placed}
use Rattle.ioam_topo_file.specs.Top.{telemetry_faults, flows_of}
use Rattle.ioam_topo_file.specs.PartsRead.{HoldsTelemetry}

-- the faults of these tables behind nodes that were read are those behind the nodes' entries
pub telemetry_same : (t : Members) (nodes : Nodes) → HoldsNodes (node_entries t) nodes
    → data_table_faults nodes.names (map list_of nodes.items.items) t
    ++ (flow_table_faults nodes.names (map list_of nodes.items.items) t 256 ++ extra_table_faults nodes.names (map list_of nodes.items.items) t 512)
    ≡ telemetry_faults t
telemetry_same t nodes holds = rw (holds.names, holds.lists)

-- the node data and the flows that were read
pub telemetry_holds : (t : Members) (nodes : Nodes) (telemetry : Telemetry) (rows : DataRows) (flows : Flows)
    → telemetry.rows ≡ rows → telemetry.flows ≡ flows → HoldsData nodes.names (data_entries t) rows → AreFlows nodes (map list_of nodes.items.items) t 256 flows
    → HoldsTelemetry nodes t telemetry
telemetry_holds t nodes telemetry rows flows same also holds are = record {
  rows = let P : DataRows → Type 0 = HoldsData nodes.names (data_entries t) in subst P (sym same) holds;
  flows = let P : Flows → Type 0 = AreFlows nodes (map list_of nodes.items.items) t 256 in subst P (sym also) are;
}

-- the flows are those of the file
pub flows_are : (t : Members) (nodes : Nodes) (telemetry : Telemetry) → HoldsNodes (node_entries t) nodes → HoldsTelemetry nodes t telemetry
    → telemetry.flows.items.items ≡ flows_of t
flows_are t nodes telemetry holds are = are.flows.are ∙ rw (holds.names, holds.lists)

pub data_are : (t : Members) (nodes : Nodes) (telemetry : Telemetry) → HoldsNodes (node_entries t) nodes → HoldsTelemetry nodes t telemetry
    → telemetry.rows.items.items ≡ goods (data_of (node_names t)) (data_entries t)
data_are t nodes telemetry holds are = are.rows.items ∙ rw holds.names

-- neither of two lists has a fault
pub none_of_two : (xs ys zs : List DomainFault) → xs ≡ [] → ys ≡ [] → xs ++ ys ≡ zs → zs ≡ []
none_of_two xs ys zs none also is = sym is ∙ (ap (λ l. l ++ ys) none ∙ also)

-- the second of two lists of faults behind none
pub behind_none : (xs ys zs : List DomainFault) → xs ≡ [] → xs ++ ys ≡ zs → ys ≡ zs
behind_none xs ys zs none is = ap (λ l. l ++ ys) (sym none) ∙ is

module _ (taps : ℕ) (t : Members) (parts : Parts) (holds : HoldsParts taps t parts) where
  -- as many names as nodes
  pub node_count : length parts.nodes.names ≡ length parts.nodes.items.items
  node_count = ap length holds.nodes.named ∙ sym (length_map name_of_node parts.nodes.items.items)

  pub data_kept : (telemetry : Telemetry) → HoldsTelemetry parts.nodes t telemetry → telemetry_faults t ≡ [] → DataKept (length parts.nodes.items.items) telemetry.rows
  data_kept telemetry are none = record {
    keyed = are.rows.keyed;
    placed = let all : All (IsOfNode (length parts.nodes.names)) (goods (data_of parts.nodes.names) (data_entries t)) =
        goods_all (IsOfNode (length parts.nodes.names)) (data_of parts.nodes.names) (data_entries t) (data_placed parts.nodes.names) in
        let P : List NodeData → Type 0 = All (IsOfNode (length parts.nodes.names)) in let Q : ℕ → Type 0 = λ n. All (IsOfNode n) telemetry.rows.items.items in
        subst Q node_count (subst P (sym are.rows.items) all);
    few = let f : length (goods (data_of (node_names t)) (data_entries t)) ≤ 4096 = few_entries (data_of (node_names t)) DataTable 4096
        (get_member (codes "data") t) (data_faults (node_names t)) (front_none (data_table_faults (node_names t) (node_lists t) t) _ none) in
        let e : length telemetry.rows.items.items ≡ length (goods (data_of (node_names t)) (data_entries t)) = ap length (data_are t parts.nodes telemetry holds.nodes are) in
        omega (arith, f, e);
  }
