-- What is known of the node data of the entries so far, and of one that was read.
use Rattle.std.specs.Prelude.{◌≡◌, ℕ, false, List, map, Ok}
use Rattle.std.specs.List.{list_any}
use Rattle.toml.specs.Data.{Members}
use Rattle.ioam_topo.specs.declared.parts.NodeData.{NodeData}
use Rattle.ioam_topo_tables.specs.declared.data_rows.DataRows.{DataRows}
use Rattle.ioam_topo_entries.specs.Goods.{goods}
use Rattle.ioam_topo.specs.Keyed.{is_pair, key_of_data}
use Rattle.ioam_topo_flows.specs.DataTable.{data_of, data_key}

module _ (nodes : List (List ℕ)) where
  -- these are the data of these entries
  pub record HoldsData (entries : List Members) (rows : DataRows) : Type 0 where
    pub items : rows.items.items ≡ goods (data_of nodes) entries
    pub keys : rows.taken.keys ≡ goods (data_key nodes) entries
    pub keyed : rows.taken.keys ≡ map key_of_data rows.items.items

  -- this is what an entry holds, and its namespace is not among the node's others
  pub record IsNewData (rows : DataRows) (m : Members) (row : NodeData) : Type 0 where
    pub is : data_of nodes m ≡ Ok row
    pub key_is : data_key nodes m ≡ Ok (row.node.0, row.namespace.0)
    pub new_key : list_any (is_pair row.node.0 row.namespace.0) rows.taken.keys ≡ false
