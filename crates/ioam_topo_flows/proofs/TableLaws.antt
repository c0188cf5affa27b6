-- Laws of the tables of flows and of their extra traces, once these were read.
use Rattle.std.proofs.Common.{◌≡◌, ◌≤◌, ℕ, [], ◌++◌, map, length, codes, ap, sym, subst, ◌∙◌, arith}
use Rattle.std.specs.List.{All}
use Rattle.toml.specs.Data.{Members, get_member}
use Rattle.ioam_topo_tables.specs.declared.nodes.Nodes.{Nodes}
use Rattle.ioam_topo_tables.specs.declared.flows.Flows.{Flows}
use Rattle.ioam_topo_tables.specs.Flows.{name_of_flow, ids_of_flows}
use Rattle.ioam_topo.specs.Kept.{JoinsEnds}
use Rattle.ioam_topo.specs.Known.{IsKnownAtEnds}
use Rattle.ioam_topo.proofs.KeyLaws.{length_map}
use Rattle.ioam_topo_entries.specs.declared.words.Table.TheVariants.{FlowTable}
use Rattle.ioam_topo_entries.specs.Goods.{list_of}
use Rattle.ioam_topo_entries.proofs.GoodsLaws.{goods_all}
use Rattle.ioam_topo_entries.proofs.TableLaws.{few_items}
use Rattle.ioam_topo_flows.specs.declared.extra_table.Extras.{Extras}
use Rattle.ioam_topo_flows.specs.FlowTable.{flow_entries, flow_of, flow_faults}
use Rattle.ioam_topo_flows.specs.FlowRead.{HoldsFlows}
use Rattle.ioam_topo_flows.specs.ExtraTable.{extra_entries, traced}
use Rattle.ioam_topo_flows.specs.ExtraRead.{OwnAlone, KeepsFlows, HoldsExtras}
use Rattle.ioam_topo_flows.specs.Tables.{flow_table_faults, extra_table_faults, extra_faults_behind, flows_behind, AreFlows}
use Rattle.ioam_topo_flows.proofs.FlowFacts.{flows_sound}
use Rattle.ioam_topo_flows.proofs.FlowKept.{flow_joins, flow_alone, flow_known}
use Rattle.ioam_topo_flows.proofs.TracedLaws.{traced_all, traced_names, traced_ids, traced_length}

-- flows that were read keep what is true of flows
pub flows_keep : (nodes : Nodes) (t : Members) (flows : Flows) → length nodes.names ≡ length nodes.items.items
    → HoldsFlows nodes.names (map list_of nodes.items.items) (flow_entries t) flows → KeepsFlows nodes flows
flows_keep nodes t flows count holds = record {
  count = ap length holds.named ∙ sym (length_map name_of_flow flows.items.items);
  own = rw holds.items (goods_all OwnAlone (flow_of nodes.names (map list_of nodes.items.items)) (flow_entries t) (flow_alone nodes.names (map list_of nodes.items.items)));
  joined = rw holds.items (goods_all (JoinsEnds (length nodes.items.items)) (flow_of nodes.names (map list_of nodes.items.items)) (flow_entries t)
      (λ m flow is. subst (λ n. JoinsEnds n flow) count (flow_joins nodes.names (map list_of nodes.items.items) m flow is)));
  sound = flows_sound nodes.names (map list_of nodes.items.items) (flow_entries t) flows.items.items holds.items;
  known = rw holds.items (goods_all (IsKnownAtEnds nodes.items.items) (flow_of nodes.names (map list_of nodes.items.items)) (flow_entries t)
      (λ m flow is. flow_known nodes.items.items nodes.names m flow count is));
}

-- the faults of extra traces behind flows that were read are those behind the flows' entries
extras_same : (nodes : Nodes) (t : Members) (flows : Flows) (most : ℕ) → HoldsFlows nodes.names (map list_of nodes.items.items) (flow_entries t) flows
    → extra_faults_behind nodes flows t most ≡ extra_table_faults nodes.names (map list_of nodes.items.items) t most
extras_same nodes t flows most holds = rw (holds.names, holds.looks)

extras_are : (nodes : Nodes) (t : Members) (flows : Flows) (extras : Extras) → HoldsFlows nodes.names (map list_of nodes.items.items) (flow_entries t) flows
    → HoldsExtras nodes flows (extra_entries t) extras → traced 0 flows.items.items extras.items.items ≡ flows_behind nodes.names (map list_of nodes.items.items) t
extras_are nodes t flows extras holds more = ap (traced 0 flows.items.items) more.items ∙ rw (holds.names, holds.looks, holds.items)

-- the faults of extra traces behind flows without faults are those of both tables
pub extras_behind : (nodes : Nodes) (t : Members) (flows : Flows) (most more : ℕ) → HoldsFlows nodes.names (map list_of nodes.items.items) (flow_entries t) flows
    → flow_table_faults nodes.names (map list_of nodes.items.items) t most ≡ []
    → extra_faults_behind nodes flows t more
    ≡ flow_table_faults nodes.names (map list_of nodes.items.items) t most ++ extra_table_faults nodes.names (map list_of nodes.items.items) t more
extras_behind nodes t flows most more holds clear =
    extras_same nodes t flows more holds ∙ sym (ap (λ l. l ++ extra_table_faults nodes.names (map list_of nodes.items.items) t more) clear)

-- the flows with their extra traces
pub flows_are : (nodes : Nodes) (t : Members) (most : ℕ) (flows out : Flows) (extras : Extras) → most ≤ 256 → length nodes.names ≡ length nodes.items.items
    → HoldsFlows nodes.names (map list_of nodes.items.items) (flow_entries t) flows → flow_table_faults nodes.names (map list_of nodes.items.items) t most ≡ []
    → HoldsExtras nodes flows (extra_entries t) extras
    → out.items.items ≡ traced 0 flows.items.items extras.items.items → out.names ≡ flows.names → out.taken.keys ≡ flows.taken.keys
    → AreFlows nodes (map list_of nodes.items.items) t most out
flows_are nodes t most flows out extras within count holds clear more items names keys =
    let few : length flows.items.items ≤ most = few_items (flow_of nodes.names (map list_of nodes.items.items)) FlowTable most (get_member (codes "flow") t)
    (flow_faults nodes.names (map list_of nodes.items.items)) flows.items.items holds.items clear in
    let long : length out.items.items ≡ length flows.items.items = ap length items ∙ traced_length 0 flows.items.items extras.items.items in
    let joined : All (JoinsEnds (length nodes.items.items)) (traced 0 flows.items.items extras.items.items) =
    traced_all (JoinsEnds (length nodes.items.items)) (λ f other joins. record { starts = joins.starts; ends = joins.ends; apart = joins.apart }) 0 flows.items.items extras.items.items more.base.joined in
    record {
      are = items ∙ extras_are nodes t flows extras holds more;
      kept = record {
        named = names ∙ holds.named ∙ sym (ap (map name_of_flow) items ∙ traced_names 0 flows.items.items extras.items.items);
        keyed = keys ∙ holds.keyed ∙ sym (ap ids_of_flows items ∙ traced_ids 0 flows.items.items extras.items.items);
        joined = rw items joined;
        known = rw items more.known;
        few = omega (arith, few, long, within);
      };
      sound = rw items more.sound;
      few = omega (arith, few, long);
    }
