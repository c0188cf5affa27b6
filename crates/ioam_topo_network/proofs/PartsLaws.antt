-- Laws of the tables of places, behind nodes that were read.
use Rattle.std.proofs.Common.{◌≡◌, ℕ, List, [], ◌++◌, codes, ap, sym, ◌∙◌, subst}
use Rattle.toml.specs.Data.{Members, get_member}
use Rattle.ioam_topo_tables.specs.declared.nodes.Nodes.{Nodes}
use Rattle.ioam_topo_tables.specs.declared.links.Links.{Links}
use Rattle.ioam_topo_tables.specs.declared.ports.Ports.{Ports}
use Rattle.ioam_topo_tables.specs.declared.routes.Parts.{Parts}
use Rattle.ioam_topo_tables.specs.declared.routes.Routes.{Routes}
use Rattle.ioam_topo_entries.specs.declared.words.Table.TheVariants.{NodeTable, LinkTable, PortTable, RouteTable}
use Rattle.ioam_topo_entries.specs.declared.fault.DomainFault.{DomainFault}
use Rattle.ioam_topo_entries.specs.Faults.{table_faults}
use Rattle.ioam_topo_network.specs.NodeTable.{node_faults}
use Rattle.ioam_topo_network.specs.NodeRead.{HoldsNodes}
use Rattle.ioam_topo_network.specs.LinkTable.{link_faults}
use Rattle.ioam_topo_network.specs.LinkRead.{HoldsLinks}
use Rattle.ioam_topo_network.specs.PortTable.{port_faults}
use Rattle.ioam_topo_network.specs.PortRead.{HoldsPorts}
use Rattle.ioam_topo_network.specs.RouteRead.{HoldsRoutes, faults_behind}
use Rattle.ioam_topo_network.specs.Places.{node_entries, link_entries, port_entries, route_entries, node_names, part_faults, route_table_faults, routes_of, HoldsParts}

-- the faults of links and ports behind nodes without faults
pub joined_same : (taps : ℕ) (t : Members) (nodes : Nodes) → HoldsNodes (node_entries t) nodes
    → table_faults NodeTable 256 (get_member (codes "node") t) node_faults ≡ []
    → table_faults LinkTable 1024 (get_member (codes "link") t) (link_faults nodes.names taps)
    ++ table_faults PortTable 64 (get_member (codes "port") t) (port_faults nodes.names) ≡ part_faults taps t
joined_same taps t nodes holds none =
    let behind : List (List ℕ) → List DomainFault = λ n. table_faults LinkTable 1024 (get_member (codes "link") t) (link_faults n taps)
    ++ table_faults PortTable 64 (get_member (codes "port") t) (port_faults n) in
    ap behind holds.names ∙ sym (ap (λ l. l ++ behind (node_names t)) none)

pub routes_same : (taps : ℕ) (t : Members) (parts : Parts) → HoldsParts taps t parts
    → table_faults RouteTable 16384 (get_member (codes "route") t) (faults_behind parts) ≡ route_table_faults t
routes_same taps t parts holds = rw (holds.nodes.names, holds.links.names, holds.links.ends, holds.ports.names, holds.ports.ends)

pub links_hold : (taps : ℕ) (t : Members) (nodes : Nodes) (links : Links) → HoldsNodes (node_entries t) nodes → HoldsLinks nodes.names taps (link_entries t) links
    → HoldsLinks (node_names t) taps (link_entries t) links
links_hold taps t nodes links holds are = let P : List (List ℕ) → Type 0 = λ n. HoldsLinks n taps (link_entries t) links in subst P holds.names are

pub ports_hold : (t : Members) (nodes : Nodes) (ports : Ports) → HoldsNodes (node_entries t) nodes → HoldsPorts nodes.names (port_entries t) ports
    → HoldsPorts (node_names t) (port_entries t) ports
ports_hold t nodes ports holds are = let P : List (List ℕ) → Type 0 = λ n. HoldsPorts n (port_entries t) ports in subst P holds.names are

pub routes_are : (taps : ℕ) (t : Members) (parts : Parts) (routes : Routes) → HoldsParts taps t parts → HoldsRoutes parts (route_entries t) routes
    → routes.items.items ≡ routes_of t
routes_are taps t parts routes holds are = are.items ∙ rw (holds.nodes.names, holds.links.names, holds.links.ends, holds.ports.names, holds.ports.ends)
