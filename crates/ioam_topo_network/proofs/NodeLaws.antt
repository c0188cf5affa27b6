-- Laws of the nodes that are collected.
use Rattle.std.proofs.Common.{◌≡◌, ℕ, ◌+◌, List, [], ◌∷◌, ◌++◌, length, map, ap, subst, ◌∙◌, Result, Ok}
use Rattle.toml.specs.Data.{Members}
use Rattle.ioam_data.specs.declared.namespace.Namespace.{Namespace}
use Rattle.ioam_topo_values.specs.declared.why.Why.{Why}
use Rattle.ioam_topo_tables.specs.declared.nodes.Nodes.{Nodes}
use Rattle.ioam_topo.specs.declared.parts.Node.{Node}
use Rattle.ioam_topo_network.specs.NodeTable.{node_keys, node_faults, node_of, node_name, node_id, node_address, node_spaces, node_list}
use Rattle.ioam_topo_network.specs.NodeRead.{HoldsNodes, IsNewNode}
use Rattle.ioam_topo_entries.specs.Goods.{list_of}
use Rattle.ioam_topo.specs.Keyed.{name_of_node, id_of_node, address_of_node}
use Rattle.ioam_topo_entries.proofs.GoodsLaws.{goods_push}
use Rattle.ioam_topo_entries.proofs.NumberLaws.{read_first, read_on}
use Rattle.ioam_topo.proofs.KeyLaws.{map_append}
use Rattle.ioam_topo_entries.proofs.KeyLaws.{kept_by}

pub held_faults : (earlier : List Members) (nodes : Nodes) (place : ℕ) (m : Members) → HoldsNodes earlier nodes → place ≡ length earlier + 1
    → node_keys place nodes.names nodes.ids.keys nodes.addresses.keys m ≡ node_faults earlier m
held_faults earlier nodes place m holds there = rw (holds.names, holds.ids, holds.addresses, there)

-- the keys of a node that was read
pub node_read : (m : Members) (node : Node) → node_of m ≡ Ok node
    → (node_name m ≡ Ok node.name) × (node_id m ≡ Ok node.id) × (node_address m ≡ Ok node.address) × (node_spaces m ≡ Ok node.namespaces)
node_read m node is =
    let named = read_first (node_name m) _ node is in
    let numbered = read_first (node_id m) _ node named.2 in
    let placed = read_first (node_address m) _ node numbered.2 in
    let listed = read_first (node_spaces m) _ node placed.2 in
    let same : record { name = named.0; id = numbered.0; address = placed.0; namespaces = listed.0 } ≡ node = cc in
    let P : Node → Type 0 = λ n. (node_name m ≡ Ok n.name) × (node_id m ≡ Ok n.id) × (node_address m ≡ Ok n.address) × (node_spaces m ≡ Ok n.namespaces) in
    subst P same (named.1, numbered.1, placed.1, listed.1)

-- a node that was read has the namespaces that were read
list_is : (m : Members) (node : Node) → node_of m ≡ Ok node → node_list m ≡ Ok (list_of node)
list_is m node is =
    let read = node_read m node is in
    read_on (node_name m) _ node.name read.0 ∙ ap (λ (l : Result (List Namespace) Why). Ok l) read.3

pub node_added : (earlier : List Members) (m : Members) (text : List ℕ) (node : Node) (old new : Nodes) → HoldsNodes earlier old → IsNewNode old m text node
    → new.items.items ≡ old.items.items ++ node ∷ [] → new.names ≡ old.names ++ node.name ∷ []
    → new.ids.keys ≡ old.ids.keys ++ node.id ∷ [] → new.addresses.keys ≡ old.addresses.keys ++ node.address ∷ []
    → HoldsNodes (earlier ++ m ∷ []) new
node_added earlier m text node old new holds fits items names ids addresses = record {
  items = goods_push node_of earlier m node _ _ fits.is holds.items items;
  names = goods_push node_name earlier m node.name _ _ fits.name_is holds.names names;
  ids = goods_push node_id earlier m node.id _ _ fits.id_is holds.ids ids;
  addresses = goods_push node_address earlier m node.address _ _ fits.address_is holds.addresses addresses;
  named = kept_by name_of_node old.items.items new.items.items node _ _ holds.named items names;
  numbered = kept_by id_of_node old.items.items new.items.items node _ _ holds.numbered items ids;
  placed = kept_by address_of_node old.items.items new.items.items node _ _ holds.placed items addresses;
  lists = goods_push node_list earlier m (list_of node) _ _ (list_is m node fits.is) holds.lists
      (ap (map list_of) items ∙ map_append list_of old.items.items (node ∷ []));
}
