-- Places that were read without faults keep what is true of them.
use Rattle.std.proofs.Common.{◌≡◌, ◌≤◌, ℕ, List, [], ◌++◌, length, codes, refl, ap, sym, subst, ◌∙◌, arith}
use Rattle.std.specs.List.{All}
use Rattle.toml.specs.Data.{Members, get_member}
use Rattle.ioam_topo.specs.declared.parts.Link.{Link}
use Rattle.ioam_topo.specs.declared.parts.Port.{Port}
use Rattle.ioam_topo.specs.declared.parts.Route.{Route}
use Rattle.ioam_topo_tables.specs.declared.routes.Parts.{Parts}
use Rattle.ioam_topo_tables.specs.declared.routes.Routes.{Routes}
use Rattle.ioam_topo.specs.Keyed.{name_of_node, name_of_link, name_of_port}
use Rattle.ioam_topo.specs.Prefixes.{IsPrefix}
use Rattle.ioam_topo.specs.Kept.{JoinsNodes, IsAtNode, IsRouteOf}
use Rattle.ioam_topo_tables.specs.Kept.{NodesKept, LinksKept, PortsKept, RoutesKept}
use Rattle.ioam_topo.proofs.KeyLaws.{length_map}
use Rattle.ioam_topo_entries.specs.declared.words.Table.TheVariants.{NodeTable, LinkTable, PortTable, RouteTable}
use Rattle.ioam_topo_entries.specs.declared.fault.DomainFault.{DomainFault}
use Rattle.ioam_topo_entries.specs.Faults.{table_faults}
use Rattle.ioam_topo_entries.specs.Goods.{goods}
use Rattle.ioam_topo_entries.proofs.GoodsLaws.{goods_all}
use Rattle.ioam_topo_entries.proofs.TableLaws.{front_none, back_none, few_entries}
use Rattle.ioam_topo_network.specs.NodeTable.{node_of, node_faults}
use Rattle.ioam_topo_network.specs.LinkTable.{link_of, link_faults}
use Rattle.ioam_topo_network.specs.PortTable.{port_of, port_faults}
use Rattle.ioam_topo_network.specs.RouteRead.{HoldsRoutes, route_behind, faults_behind}
use Rattle.ioam_topo_network.specs.Places.{node_entries, link_entries, port_entries, route_entries, node_names, part_faults, HoldsParts}
use Rattle.ioam_topo_network.proofs.PartFacts.{nodes_sound, links_sound, ports_sound}
use Rattle.ioam_topo_network.proofs.KeptLaws.{link_joins, port_placed, route_leads, route_prefixed}

module _ (taps : ℕ) (t : Members) (parts : Parts) (holds : HoldsParts taps t parts) (clear : part_faults taps t ≡ []) where
  abbrev node_part : List DomainFault
  node_part = table_faults NodeTable 256 (get_member (codes "node") t) node_faults

  abbrev link_part : List DomainFault
  link_part = table_faults LinkTable 1024 (get_member (codes "link") t) (link_faults (node_names t) taps)

  abbrev port_part : List DomainFault
  port_part = table_faults PortTable 64 (get_member (codes "port") t) (port_faults (node_names t))

  node_count : length (node_names t) ≡ length parts.nodes.items.items
  node_count = ap length (sym holds.nodes.names ∙ holds.nodes.named) ∙ sym (length_map name_of_node parts.nodes.items.items)

  pub nodes_kept : NodesKept parts.nodes
  nodes_kept = record {
    named = holds.nodes.named;
    numbered = holds.nodes.numbered;
    placed = holds.nodes.placed;
    sound = nodes_sound (node_entries t) parts.nodes.items.items holds.nodes.items;
    few = let f : length (goods node_of (node_entries t)) ≤ 256 = few_entries node_of NodeTable 256 (get_member (codes "node") t) node_faults
        (front_none node_part (link_part ++ port_part) clear) in
        let e : length parts.nodes.items.items ≡ length (goods node_of (node_entries t)) = ap length holds.nodes.items in omega (arith, f, e);
  }

  pub links_kept : taps ≤ 64 → LinksKept (length parts.nodes.items.items) parts.links
  links_kept most = record {
    named = holds.links.named;
    joined = let all : All (JoinsNodes (length (node_names t))) (goods (link_of (node_names t)) (link_entries t)) = goods_all (JoinsNodes (length (node_names t))) (link_of (node_names t)) (link_entries t) (link_joins (node_names t)) in
        let P : List Link → Type 0 = All (JoinsNodes (length (node_names t))) in let Q : ℕ → Type 0 = λ n. All (JoinsNodes n) parts.links.items.items in
        subst Q node_count (subst P (sym holds.links.items) all);
    sound = links_sound (node_names t) (link_entries t) parts.links.items.items holds.links.items;
    few = let f : length (goods (link_of (node_names t)) (link_entries t)) ≤ 1024 = few_entries (link_of (node_names t)) LinkTable 1024 (get_member (codes "link") t) (link_faults (node_names t) taps)
        (front_none link_part port_part (back_none node_part (link_part ++ port_part) clear)) in
        let e : length parts.links.items.items ≡ length (goods (link_of (node_names t)) (link_entries t)) = ap length holds.links.items in omega (arith, f, e);
    few_taps = let n = holds.links.tapped in let f = holds.links.few_taps in omega (arith, n, f, most);
  }

  pub ports_kept : PortsKept (length parts.nodes.items.items) parts.ports
  ports_kept = record {
    named = holds.ports.named;
    placed = let all : All (IsAtNode (length (node_names t))) (goods (port_of (node_names t)) (port_entries t)) = goods_all (IsAtNode (length (node_names t))) (port_of (node_names t)) (port_entries t) (port_placed (node_names t)) in
        let P : List Port → Type 0 = All (IsAtNode (length (node_names t))) in let Q : ℕ → Type 0 = λ n. All (IsAtNode n) parts.ports.items.items in
        subst Q node_count (subst P (sym holds.ports.items) all);
    sound = ports_sound (node_names t) (port_entries t) parts.ports.items.items holds.ports.items;
    few = let f : length (goods (port_of (node_names t)) (port_entries t)) ≤ 64 = few_entries (port_of (node_names t)) PortTable 64 (get_member (codes "port") t) (port_faults (node_names t))
        (back_none link_part port_part (back_none node_part (link_part ++ port_part) clear)) in
        let e : length parts.ports.items.items ≡ length (goods (port_of (node_names t)) (port_entries t)) = ap length holds.ports.items in omega (arith, f, e);
  }

  pub routes_kept : (routes : Routes) → HoldsRoutes parts (route_entries t) routes
      → table_faults RouteTable 16384 (get_member (codes "route") t) (faults_behind parts) ≡ [] → RoutesKept parts routes
  routes_kept routes are none = record {
    keyed = are.keyed;
    prefixes = let all : All (λ route. IsPrefix route.prefix) (goods (route_behind parts) (route_entries t)) = goods_all (λ route. IsPrefix route.prefix) (route_behind parts) (route_entries t)
        (route_prefixed parts.nodes.names parts.links.names _ parts.ports.names _) in
        let P : List Route → Type 0 = All (λ route. IsPrefix route.prefix) in subst P (sym are.items) all;
    routed = let link_count : length parts.links.names ≡ length parts.links.items.items = ap length holds.links.named ∙ sym (length_map name_of_link parts.links.items.items) in
        let count : length parts.nodes.names ≡ length parts.nodes.items.items = ap length holds.nodes.names ∙ node_count in
        let all : All (IsRouteOf (length parts.nodes.names) parts.links.items.items parts.ports.items.items) (goods (route_behind parts) (route_entries t)) =
        goods_all (IsRouteOf (length parts.nodes.names) parts.links.items.items parts.ports.items.items) (route_behind parts) (route_entries t)
        (route_leads parts.nodes.names parts.links.names _ parts.ports.names _ parts.links.items.items parts.ports.items.items refl refl link_count port_count) in
        let P : List Route → Type 0 = All (IsRouteOf (length parts.nodes.names) parts.links.items.items parts.ports.items.items) in
        let Q : ℕ → Type 0 = λ n. All (IsRouteOf n parts.links.items.items parts.ports.items.items) routes.items.items in
        subst Q count (subst P (sym are.items) all);
    few = let f : length (goods (route_behind parts) (route_entries t)) ≤ 16384 = few_entries (route_behind parts) RouteTable 16384 (get_member (codes "route") t) (faults_behind parts) none in
        let e : length routes.items.items ≡ length (goods (route_behind parts) (route_entries t)) = ap length are.items in omega (arith, f, e);
  } where
    port_count : length parts.ports.names ≡ length parts.ports.items.items
    port_count = ap length holds.ports.named ∙ sym (length_map name_of_port parts.ports.items.items)
