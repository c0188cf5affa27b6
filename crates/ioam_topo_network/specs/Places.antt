-- The tables of the places of a domain: its nodes, links, ports and routes.
use Rattle.std.specs.Prelude.{ℕ, codes, List, ◌++◌, Result}
use Rattle.toml.specs.Data.{Members, get_member}
use Rattle.ioam_data.specs.declared.namespace.Namespace.{Namespace}
use Rattle.ioam_topo.specs.declared.parts.Node.{Node}
use Rattle.ioam_topo.specs.declared.parts.Link.{Link}
use Rattle.ioam_topo.specs.declared.parts.Port.{Port}
use Rattle.ioam_topo.specs.declared.parts.Route.{Route}
use Rattle.ioam_topo_tables.specs.declared.routes.Parts.{Parts}
use Rattle.ioam_topo_values.specs.declared.why.Why.{Why}
use Rattle.ioam_topo_values.specs.Entries.{entries}
use Rattle.ioam_topo_entries.specs.declared.words.Table.TheVariants.{NodeTable, LinkTable, PortTable, RouteTable}
use Rattle.ioam_topo_entries.specs.declared.fault.DomainFault.{DomainFault}
use Rattle.ioam_topo_entries.specs.Faults.{table_faults}
use Rattle.ioam_topo_entries.specs.Goods.{goods}
use Rattle.ioam_topo_network.specs.NodeTable.{node_faults, node_of, node_name, node_list}
use Rattle.ioam_topo_network.specs.NodeRead.{HoldsNodes}
use Rattle.ioam_topo_network.specs.LinkTable.{link_faults, link_name, link_end, link_of}
use Rattle.ioam_topo_network.specs.LinkRead.{HoldsLinks}
use Rattle.ioam_topo_network.specs.PortTable.{port_faults, port_name, port_end, port_of}
use Rattle.ioam_topo_network.specs.PortRead.{HoldsPorts}
use Rattle.ioam_topo_network.specs.RouteTable.{route_faults, route_of}

-- the entries of each table
abbrev pub node_entries : Members → List Members
node_entries t = entries (get_member (codes "node") t)

-- the entries of the table `link`
abbrev pub link_entries : Members → List Members
link_entries t = entries (get_member (codes "link") t)

-- the entries of the table `port`
abbrev pub port_entries : Members → List Members
port_entries t = entries (get_member (codes "port") t)

-- the entries of the table `route`
abbrev pub route_entries : Members → List Members
route_entries t = entries (get_member (codes "route") t)

-- the names of the nodes
abbrev pub node_names : Members → List (List ℕ)
node_names t = goods node_name (node_entries t)

-- the namespaces that the nodes of these names list
abbrev pub node_lists : Members → List (Result (List Namespace) Why)
node_lists t = goods node_list (node_entries t)

-- the nodes of the file, in order
abbrev pub nodes_of : Members → List Node
nodes_of t = goods node_of (node_entries t)

-- the links of the file, in order
abbrev pub links_of : Members → List Link
links_of t = goods (link_of (node_names t)) (link_entries t)

-- the ports of the file, in order
abbrev pub ports_of : Members → List Port
ports_of t = goods (port_of (node_names t)) (port_entries t)

-- the routes of the file, in order
abbrev pub routes_of : Members → List Route
routes_of t = goods (route_of (node_names t) (goods link_name (link_entries t)) (goods (link_end (node_names t)) (link_entries t))
    (goods port_name (port_entries t)) (goods (port_end (node_names t)) (port_entries t))) (route_entries t)

-- the faults of the nodes, links and ports, where no more than so many links may have a tap
abbrev pub part_faults : ℕ → Members → List DomainFault
part_faults taps t = table_faults NodeTable 256 (get_member (codes "node") t) node_faults
    ++ (table_faults LinkTable 1024 (get_member (codes "link") t) (link_faults (node_names t) taps)
    ++ table_faults PortTable 64 (get_member (codes "port") t) (port_faults (node_names t)))

-- the faults of the routes
abbrev pub route_table_faults : Members → List DomainFault
route_table_faults t = table_faults RouteTable 16384 (get_member (codes "route") t)
    (route_faults (node_names t) (goods link_name (link_entries t)) (goods (link_end (node_names t)) (link_entries t))
    (goods port_name (port_entries t)) (goods (port_end (node_names t)) (port_entries t)))

-- these are the nodes, links and ports of a file
pub record HoldsParts (taps : ℕ) (t : Members) (parts : Parts) : Type 0 where
  pub nodes : HoldsNodes (node_entries t) parts.nodes
  pub links : HoldsLinks (node_names t) taps (link_entries t) parts.links
  pub ports : HoldsPorts (node_names t) (port_entries t) parts.ports
