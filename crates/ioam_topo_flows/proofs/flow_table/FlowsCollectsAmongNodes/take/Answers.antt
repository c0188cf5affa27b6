use Rattle.std.proofs.Common.{sym, ◌∙◌, map}
use Rattle.toml.specs.View.{table_view}
use Rattle.ioam_topo_entries.specs.Goods.{list_of}
use Rattle.ioam_topo_entries.proofs.FaultLaws.{gives_same}
use Rattle.ioam_topo_flows.proofs.FlowLaws.{held_faults, flow_added}
use Rattle.ioam_topo_flows.proofs.flow_table.FlowsCollectsAmongNodes.take.Goals as goal

pub returns-in-Err : goal.returns-in-Err
returns-in-Err c = λ earlier holds there. gives_same c.in-Err.refused _ _ _ _
    (held_faults c.args.before.now.nodes.now.names (map list_of c.args.before.now.nodes.now.items.items) earlier c.args.self.now c.args.place (table_view c.args.entry.now) holds there) c.in-Err.ensures

pub returns-in-Ok-add : goal.returns-in-Ok-add
returns-in-Ok-add c = λ earlier holds there. (
  sym (held_faults c.args.before.now.nodes.now.names (map list_of c.args.before.now.nodes.now.items.items) earlier c.args.self.now c.args.place (table_view c.args.entry.now) holds there) ∙ c.in-Ok.ensures.0,
  flow_added c.args.before.now.nodes.now.names (map list_of c.args.before.now.nodes.now.items.items) earlier (table_view c.args.entry.now) _ c.in-Ok.row.1 c.args.self.now c.add.new.self holds c.in-Ok.ensures.1
      c.in-Ok-add.ensures.items c.in-Ok-add.ensures.names c.in-Ok-add.ensures.keys,
)
