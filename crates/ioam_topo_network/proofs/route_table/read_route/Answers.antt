use Rattle.std.proofs.Common.{rules, ◌≡◌, [], Ok, codes}
use Rattle.toml.specs.Data.{get_member}
use Rattle.toml.specs.View.{table_view}
use Rattle.ioam_topo_values.specs.Reads.{◌▷◌, needed}
use Rattle.ioam_topo_values.specs.Prefixes.{prefix}
use Rattle.ioam_topo_entries.specs.declared.words.Table.TheVariants.{RouteTable}
use Rattle.ioam_topo_entries.specs.Faults.{at, other_key}
use Rattle.ioam_topo_entries.specs.Keys.{own_keys}
use Rattle.ioam_topo_network.specs.RouteTable.{fresh_for}
use Rattle.ioam_topo_network.proofs.RouteLaws.{fresh_for_new, keys_clear}
use Rattle.ioam_topo_network.proofs.route_table.read_route.Goals as goal

pub returns : goal.returns
returns c =
    let own : at RouteTable c.args.place other_key (own_keys RouteTable (table_view c.args.entry.now)) ≡ [] = search rules in
    let f : needed prefix (get_member (codes "prefix") (table_view c.args.entry.now)) ▷ fresh_for (Ok c.in_ok-node.node) c.args.routes.now.taken.keys ≡ Ok c.in_ok-prefix.prefix = search rules in (
      keys_clear c.args.parts.now c.args.place c.args.routes.now.taken.keys (table_view c.args.entry.now) c.in_ok-node.node c.in_ok-prefix.prefix c.in_ok-link.link c.in_ok-port.port
          own (search rules) f (search rules) (search rules),
      record {
        is = search rules;
        key_is = search rules;
        new_key = fresh_for_new c.in_ok-node.node c.args.routes.now.taken.keys _ c.in_ok-prefix.prefix f;
      },
    )
