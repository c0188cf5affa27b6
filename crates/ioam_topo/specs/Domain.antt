-- What a domain has, in file order.
use Rattle.std.specs.Prelude.{List, ℕ, Bool, nat_eq, Option, map, option_map}
use Rattle.std.specs.List.{list_any}
use Rattle.ioam_topo.specs.declared.domain.Domain.{Domain}
use Rattle.ioam_topo.specs.declared.parts.Node.{Node}
use Rattle.ioam_topo.specs.declared.parts.Link.{Link}
use Rattle.ioam_topo.specs.declared.parts.Port.{Port}
use Rattle.ioam_topo.specs.declared.parts.Route.{Route}
use Rattle.ioam_topo.specs.declared.ids.NodeId.{NodeId}
use Rattle.ioam_topo.specs.declared.ids.LinkId.{LinkId}
pub use Rattle.ioam_topo.specs.Known.{spaces_of}
use Rattle.ioam_topo.specs.Keyed.{place_of, name_of_node, name_of_link}
use Rattle.ioam_topo.specs.declared.parts.NodeData.{NodeData}
use Rattle.ioam_topo.specs.declared.parts.Flow.{Flow}

-- the nodes, links, ports and routes of a domain, in file order
abbrev pub nodes : Domain → List Node
nodes domain = domain.parts.nodes.items

-- its links, in file order
abbrev pub links : Domain → List Link
links domain = domain.parts.links.items

-- its ports, in file order
abbrev pub ports : Domain → List Port
ports domain = domain.parts.ports.items

-- its routes, in file order
abbrev pub routes : Domain → List Route
routes domain = domain.parts.routes.items

-- the data of the nodes and the flows, in file order
abbrev pub node_data : Domain → List NodeData
node_data domain = domain.parts.data.items

-- the flows of a domain, in file order
abbrev pub flows : Domain → List Flow
flows domain = domain.parts.flows.items

-- the node of a name, by its place
abbrev pub node_of_name : Domain → List ℕ → Option NodeId
node_of_name domain name = option_map (λ at. record { 0 = at }) (place_of (map name_of_node (nodes domain)) name)

-- the link of a name, by its place
abbrev pub link_of_name : Domain → List ℕ → Option LinkId
link_of_name domain name = option_map (λ at. record { 0 = at }) (place_of (map name_of_link (links domain)) name)

-- whether a target is an address of a node of the domain
abbrev pub is_local : Domain → ℕ → Bool
is_local domain target = list_any (λ (node : Node). nat_eq target node.address) (nodes domain)
