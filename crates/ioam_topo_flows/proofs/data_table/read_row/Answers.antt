use Rattle.std.proofs.Common.{◌≡◌, Ok, [], rules, refl}
use Rattle.toml.specs.View.{table_view}
use Rattle.ioam_topo_values.specs.Reads.{◌▷◌}
use Rattle.ioam_topo_entries.specs.declared.words.Table.TheVariants.{DataTable}
use Rattle.ioam_topo_entries.specs.Faults.{at, other_key}
use Rattle.ioam_topo_entries.specs.Keys.{own_keys}
use Rattle.ioam_topo_flows.specs.Apart.{fresh_with}
use Rattle.ioam_topo_flows.specs.DataTable.{data_node, data_space}
use Rattle.ioam_topo_flows.proofs.DataLaws.{row_behind}
use Rattle.ioam_topo_flows.proofs.data_table.read_row.Goals as goal

pub returns : goal.returns
returns c =
    let own : at DataTable c.args.place other_key (own_keys DataTable (table_view c.args.entry.now)) ≡ [] = search rules in
    let placed : data_node c.args.nodes.now.names (table_view c.args.entry.now) ≡ Ok c.in_ok-node.node = search rules in
    let spaced : data_space (table_view c.args.entry.now) ▷ fresh_with (Ok c.in_ok-node.node) c.args.rows.now.taken.keys ≡ Ok c.in_ok-space.space = search rules in
    row_behind c.args.nodes.now.names (table_view c.args.entry.now) c.args.rows.now.taken.keys c.in_ok-node.node c.in_ok-space.space placed spaced
    c.args.place c.args.rows.now c.read_values.result refl own c.read_values.ensures
