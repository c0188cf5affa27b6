-- Laws of what is true of node data, from what their entries read as.
use Rattle.std.proofs.Common.{◌≡◌, ◌≤◌, ◌%◌, ℕ, codes, List, length, is_some, Ok, subst}
use Rattle.std.specs.List.{All}
use Rattle.toml.specs.Data.{Members, get_member}
use Rattle.ioam_topo_values.specs.Reads.{needed, maybe}
use Rattle.ioam_topo_values.specs.Numbers.{number}
use Rattle.ioam_topo_values.specs.Texts.{name}
use Rattle.ioam_topo_values.specs.Octets.{octets}
use Rattle.ioam_topo_values.proofs.OctetLaws.{octets_sized}
use Rattle.ioam_topo.specs.declared.parts.NodeData.{NodeData}
use Rattle.ioam_topo_entries.specs.Goods.{goods}
use Rattle.ioam_topo_flows.specs.DataTable.{data_node, data_space, data_short, data_wide, data_schema, data_snapshot, data_of}
use Rattle.ioam_topo.specs.Kept.{IsOfNode}
use Rattle.ioam_topo.specs.Sound.{IsNodeData}
use Rattle.ioam_topo_entries.proofs.ReadLaws.{number_bounds, beside_off, maybe_for, paired}
use Rattle.ioam_topo_entries.proofs.GoodsLaws.{known_below, goods_all}
use Rattle.ioam_topo_entries.proofs.NumberLaws.{read_first}

module _ (nodes : List (List ℕ)) (m : Members) where
  -- data have what the keys of their entry read as
  record AreParts (row : NodeData) : Type 0 where
    node : data_node nodes m ≡ Ok row.node.0
    wide : data_wide m ≡ Ok row.wide
    schema : data_schema m ≡ Ok row.schema
    snapshot : data_snapshot m ≡ Ok row.snapshot

  parts_of : (row : NodeData) → data_of nodes m ≡ Ok row → AreParts row
  parts_of row is =
      let node = read_first (data_node nodes m) _ row is in
      let space = read_first (data_space m) _ row node.2 in
      let short = read_first (data_short m) _ row space.2 in
      let wide = read_first (data_wide m) _ row short.2 in
      let schema = read_first (data_schema m) _ row wide.2 in
      let snapshot = read_first (data_snapshot m) _ row schema.2 in
      let same : record { node = record { 0 = node.0 }; namespace = record { 0 = space.0 }; short = short.0; wide = wide.0; schema = schema.0; snapshot = snapshot.0 } ≡ row = cc in
      subst AreParts same (record { node = node.1; wide = wide.1; schema = schema.1; snapshot = snapshot.1 })

  -- data are of a node of these names
  pub data_placed : (row : NodeData) → data_of nodes m ≡ Ok row → IsOfNode (length nodes) row
  data_placed row is = known_below nodes (needed name (get_member (codes "node") m)) row.node.0 (parts_of row is).node

  -- data are within their bounds
  data_facts : (row : NodeData) → data_of nodes m ≡ Ok row → IsNodeData row
  data_facts row is =
      let parts = parts_of row is in
      let schema : maybe (number 0 16777214) (get_member (codes "schema") m) ≡ Ok row.schema
      = beside_off (is_some (get_member (codes "snapshot") m)) (maybe (number 0 16777214) (get_member (codes "schema") m)) row.schema parts.schema in
      let snapshot : maybe octets (get_member (codes "snapshot") m) ≡ Ok row.snapshot
      = beside_off (is_some (get_member (codes "schema") m)) (maybe octets (get_member (codes "snapshot") m)) row.snapshot parts.snapshot in
      record {
        wide_most = maybe_for (number 0 9223372036854775807) (λ n. n ≤ 9223372036854775807) (λ d n read. (number_bounds 0 9223372036854775807 d n read).1) (get_member (codes "wide") m) row.wide parts.wide;
        schema_most = maybe_for (number 0 16777214) (λ n. n ≤ 16777214) (λ d n read. (number_bounds 0 16777214 d n read).1) (get_member (codes "schema") m) row.schema schema;
        both = paired (number 0 16777214) octets (is_some (get_member (codes "snapshot") m)) (get_member (codes "schema") m) (get_member (codes "snapshot") m) row.schema row.snapshot (λ on. on) parts.schema parts.snapshot;
        words = maybe_for octets (λ s. length s % 4 ≡ 0) (λ d s read. (octets_sized d s read).0) (get_member (codes "snapshot") m) row.snapshot snapshot;
        most = maybe_for octets (λ s. length s ≤ 180) (λ d s read. (octets_sized d s read).1) (get_member (codes "snapshot") m) row.snapshot snapshot;
      }

-- what is true of the data of entries
pub data_sound : (nodes : List (List ℕ)) (ms : List Members) (rows : List NodeData) → rows ≡ goods (data_of nodes) ms → All IsNodeData rows
data_sound nodes ms rows are = rw are (goods_all IsNodeData (data_of nodes) ms (data_facts nodes))
