-- What is known of the ports of the entries so far, and of one that was read.
use Rattle.std.specs.Prelude.{◌≡◌, ℕ, false, List, map, Result, Ok}
use Rattle.std.specs.List.{list_any}
use Rattle.std.specs.Str.{bytes_eq}
use Rattle.toml.specs.Data.{Members}
use Rattle.ioam_topo_values.specs.declared.why.Why.{Why}
use Rattle.ioam_topo.specs.declared.parts.Port.{Port}
use Rattle.ioam_topo_tables.specs.declared.ports.Ports.{Ports}
use Rattle.ioam_topo_entries.specs.Goods.{goods}
use Rattle.ioam_topo_network.specs.PortTable.{port_of, port_name, port_end}
use Rattle.ioam_topo.specs.Keyed.{name_of_port}

-- the node of a port
abbrev pub node_of_port : Port → Result ℕ Why
node_of_port port = Ok port.node.0

module _ (nodes : List (List ℕ)) where
  -- these are the ports of these entries
  pub record HoldsPorts (entries : List Members) (ports : Ports) : Type 0 where
    pub items : ports.items.items ≡ goods (port_of nodes) entries
    pub ends : map node_of_port ports.items.items ≡ goods (port_end nodes) entries
    pub names : ports.names ≡ goods port_name entries
    pub named : ports.names ≡ map name_of_port ports.items.items

  -- this is the port of an entry, and its name is not among the others
  pub record IsNewPort (ports : Ports) (m : Members) (text : List ℕ) (port : Port) : Type 0 where
    pub name : port.name ≡ text
    pub is : port_of nodes m ≡ Ok port
    pub end_is : port_end nodes m ≡ Ok (node_of_port port)
    pub name_is : port_name m ≡ Ok port.name
    pub new_name : list_any (bytes_eq text) ports.names ≡ false
