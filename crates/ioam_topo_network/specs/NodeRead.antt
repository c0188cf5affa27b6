-- What is known of the nodes of the entries so far, and of one that was read.
use Rattle.std.specs.Prelude.{◌≡◌, ℕ, nat_eq, false, List, map, Ok}
use Rattle.std.specs.List.{list_any}
use Rattle.std.specs.Str.{bytes_eq}
use Rattle.toml.specs.Data.{Members}
use Rattle.ioam_topo.specs.declared.parts.Node.{Node}
use Rattle.ioam_topo_tables.specs.declared.nodes.Nodes.{Nodes}
use Rattle.ioam_topo_entries.specs.Goods.{goods, list_of}
use Rattle.ioam_topo_network.specs.NodeTable.{node_of, node_name, node_id, node_address, node_list}
use Rattle.ioam_topo.specs.Keyed.{name_of_node, id_of_node, address_of_node}

-- these are the nodes of these entries
pub record HoldsNodes (entries : List Members) (nodes : Nodes) : Type 0 where
  pub items : nodes.items.items ≡ goods node_of entries
  pub names : nodes.names ≡ goods node_name entries
  pub ids : nodes.ids.keys ≡ goods node_id entries
  pub addresses : nodes.addresses.keys ≡ goods node_address entries
  pub named : nodes.names ≡ map name_of_node nodes.items.items
  pub numbered : nodes.ids.keys ≡ map id_of_node nodes.items.items
  pub placed : nodes.addresses.keys ≡ map address_of_node nodes.items.items
  pub lists : map list_of nodes.items.items ≡ goods node_list entries

-- this is the node of an entry, and nothing of it is among the others
pub record IsNewNode (nodes : Nodes) (m : Members) (text : List ℕ) (node : Node) : Type 0 where
  pub name : node.name ≡ text
  pub is : node_of m ≡ Ok node
  pub name_is : node_name m ≡ Ok node.name
  pub id_is : node_id m ≡ Ok node.id
  pub address_is : node_address m ≡ Ok node.address
  pub new_name : list_any (bytes_eq text) nodes.names ≡ false
  pub new_id : list_any (nat_eq node.id) nodes.ids.keys ≡ false
  pub new_address : list_any (nat_eq node.address) nodes.addresses.keys ≡ false
