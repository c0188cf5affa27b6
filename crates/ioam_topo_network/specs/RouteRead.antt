-- What is known of the routes of the entries so far, and of one that was read.
use Rattle.std.specs.Prelude.{◌≡◌, ℕ, false, List, map, Result, Ok}
use Rattle.std.specs.List.{list_any}
use Rattle.toml.specs.Data.{Members}
use Rattle.ioam_topo_values.specs.declared.why.Why.{Why}
use Rattle.ioam_topo.specs.declared.prefix.Prefix.{Prefix}
use Rattle.ioam_topo.specs.declared.parts.Route.{Route}
use Rattle.ioam_topo_tables.specs.declared.routes.Parts.{Parts}
use Rattle.ioam_topo_tables.specs.declared.routes.Routes.{Routes}
use Rattle.ioam_topo_entries.specs.declared.fault.DomainFault.{DomainFault}
use Rattle.ioam_topo_entries.specs.Goods.{goods}
use Rattle.ioam_topo_network.specs.LinkRead.{from_of}
use Rattle.ioam_topo_network.specs.PortRead.{node_of_port}
use Rattle.ioam_topo.specs.Keyed.{is_route, key_of_route}
use Rattle.ioam_topo_network.specs.RouteTable.{route_of, route_key, route_keys, route_faults}

module _ (parts : Parts) where
  -- the keys, the faults, the route and what no two may share, behind these nodes, links and ports
  abbrev pub keys_behind : ℕ → List (ℕ × Prefix) → Members → List DomainFault
  keys_behind = route_keys parts.nodes.names parts.links.names (map from_of parts.links.items.items) parts.ports.names (map node_of_port parts.ports.items.items)

  -- the faults of a route's entry behind others, over these nodes, links and ports
  abbrev pub faults_behind : List Members → Members → List DomainFault
  faults_behind = route_faults parts.nodes.names parts.links.names (map from_of parts.links.items.items) parts.ports.names (map node_of_port parts.ports.items.items)

  -- the route of an entry, over these
  abbrev pub route_behind : Members → Result Route Why
  route_behind = route_of parts.nodes.names parts.links.names (map from_of parts.links.items.items) parts.ports.names (map node_of_port parts.ports.items.items)

  -- the node and the prefix of an entry's route, which no two routes share
  abbrev pub key_behind : Members → Result (ℕ × Prefix) Why
  key_behind = route_key parts.nodes.names parts.links.names (map from_of parts.links.items.items) parts.ports.names (map node_of_port parts.ports.items.items)

  -- these are the routes of these entries
  pub record HoldsRoutes (entries : List Members) (routes : Routes) : Type 0 where
    pub items : routes.items.items ≡ goods route_behind entries
    pub keys : routes.taken.keys ≡ goods key_behind entries
    pub keyed : routes.taken.keys ≡ map key_of_route routes.items.items

  -- this is the route of an entry, and its prefix is not among the node's others
  pub record IsNewRoute (routes : Routes) (m : Members) (route : Route) : Type 0 where
    pub is : route_behind m ≡ Ok route
    pub key_is : key_behind m ≡ Ok (route.node.0, route.prefix)
    pub new_key : list_any (is_route route.node.0 route.prefix) routes.taken.keys ≡ false
