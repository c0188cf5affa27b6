-- What is true of a domain's tables, whatever file they are of.
use Rattle.std.specs.Prelude.{◌≡◌, ◌≤◌, ℕ, List, map, length}
use Rattle.std.specs.List.{All}
use Rattle.ioam_topo.specs.declared.parts.Node.{Node}
use Rattle.ioam_topo.specs.Keyed.{name_of_node, address_of_node, id_of_node, name_of_link, taps_of, name_of_port, key_of_route, key_of_data}
use Rattle.ioam_topo.specs.Prefixes.{IsPrefix}
use Rattle.ioam_topo.specs.Known.{IsKnownAtEnds}
use Rattle.ioam_topo.specs.Sound.{IsNode, IsLink, IsPort}
use Rattle.ioam_topo.specs.Kept.{JoinsNodes, JoinsEnds, IsAtNode, IsOfNode, IsRouteOf}
use Rattle.ioam_topo_tables.specs.declared.data_rows.DataRows.{DataRows}
use Rattle.ioam_topo_tables.specs.declared.flows.Flows.{Flows}
use Rattle.ioam_topo_tables.specs.declared.nodes.Nodes.{Nodes}
use Rattle.ioam_topo_tables.specs.declared.links.Links.{Links}
use Rattle.ioam_topo_tables.specs.declared.ports.Ports.{Ports}
use Rattle.ioam_topo_tables.specs.declared.routes.Parts.{Parts}
use Rattle.ioam_topo_tables.specs.declared.routes.Routes.{Routes}
use Rattle.ioam_topo_tables.specs.Flows.{name_of_flow, ids_of_flows}

-- the table of nodes: names, ids and addresses stand in the nodes' order; each node is sound, and there are 256 at most
pub record NodesKept (nodes : Nodes) : Type 0 where
  pub named : nodes.names ≡ map name_of_node nodes.items.items
  pub numbered : nodes.ids.keys ≡ map id_of_node nodes.items.items
  pub placed : nodes.addresses.keys ≡ map address_of_node nodes.items.items
  pub sound : All IsNode nodes.items.items
  pub few : length nodes.items.items ≤ 256

-- the table of links, between so many nodes: names stand in the links' order; each link joins two of the nodes and is sound;
-- there are 1,024 at most, and 64 taps
pub record LinksKept (nodes : ℕ) (links : Links) : Type 0 where
  pub named : links.names ≡ map name_of_link links.items.items
  pub joined : All (JoinsNodes nodes) links.items.items
  pub sound : All IsLink links.items.items
  pub few : length links.items.items ≤ 1024
  pub few_taps : taps_of links.items.items ≤ 64

-- the table of ports, of so many nodes: names stand in the ports' order; each port is at one of the nodes and is sound, and
-- there are 64 at most
pub record PortsKept (nodes : ℕ) (ports : Ports) : Type 0 where
  pub named : ports.names ≡ map name_of_port ports.items.items
  pub placed : All (IsAtNode nodes) ports.items.items
  pub sound : All IsPort ports.items.items
  pub few : length ports.items.items ≤ 64

-- the table of routes, over the nodes, links and ports: keys stand in the routes' order; each prefix is one, each way is that
-- of the route's node, and there are 16,384 at most
pub record RoutesKept (parts : Parts) (routes : Routes) : Type 0 where
  pub keyed : routes.taken.keys ≡ map key_of_route routes.items.items
  pub prefixes : All (λ route. IsPrefix route.prefix) routes.items.items
  pub routed : All (IsRouteOf (length parts.nodes.items.items) parts.links.items.items parts.ports.items.items) routes.items.items
  pub few : length routes.items.items ≤ 16384

-- the table of what nodes record, of so many nodes: keys stand in the entries' order; each entry is of one of the nodes, and
-- there are 4,096 at most
pub record DataKept (nodes : ℕ) (rows : DataRows) : Type 0 where
  pub keyed : rows.taken.keys ≡ map key_of_data rows.items.items
  pub placed : All (IsOfNode nodes) rows.items.items
  pub few : length rows.items.items ≤ 4096

-- the table of flows, over these nodes: names and ids stand in the flows' order; each flow joins two of the nodes, which know
-- its namespaces, and there are 256 at most
pub record FlowsKept (nodes : List Node) (flows : Flows) : Type 0 where
  pub named : flows.names ≡ map name_of_flow flows.items.items
  pub keyed : flows.taken.keys ≡ ids_of_flows flows.items.items
  pub joined : All (JoinsEnds (length nodes)) flows.items.items
  pub known : All (IsKnownAtEnds nodes) flows.items.items
  pub few : length flows.items.items ≤ 256
