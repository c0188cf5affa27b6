-- Laws of the node data that are collected.
use Rattle.std.proofs.Common.{◌≡◌, ℕ, ◌+◌, List, [], ◌∷◌, ◌++◌, length, Bool, true, false, cond, Result, Ok, Err, refl, ap, sym, ◌∙◌, subst, codes}
use Rattle.std.specs.List.{list_any}
use Rattle.toml.specs.Data.{Members}
use Rattle.ioam_topo_values.specs.declared.why.Why.{Why}
use Rattle.ioam_topo_values.specs.declared.why.Why.TheVariants.{Twice}
use Rattle.ioam_topo_values.specs.Reads.{◌▷◌}
use Rattle.ioam_topo_tables.specs.declared.data_rows.DataRows.{DataRows}
use Rattle.ioam_topo.specs.declared.parts.NodeData.{NodeData}
use Rattle.ioam_topo.specs.Keyed.{is_pair, key_of_data}
use Rattle.ioam_topo_flows.specs.Apart.{fresh_with}
use Rattle.ioam_topo_flows.specs.DataTable.{data_node, data_space, values_of, value_keys, data_keys, data_faults, data_of, data_key}
use Rattle.ioam_topo_flows.specs.DataRead.{HoldsData, IsNewData}
use Rattle.ioam_topo_entries.specs.declared.words.Table.TheVariants.{DataTable}
use Rattle.ioam_topo_entries.specs.declared.fault.DomainFault.{DomainFault}
use Rattle.ioam_topo_entries.specs.declared.fault.DomainRefused.{DomainRefused}
use Rattle.ioam_topo_entries.specs.Faults.{at, Gives, other_key}
use Rattle.ioam_topo_entries.specs.Keys.{own_keys}
use Rattle.ioam_topo_entries.proofs.FaultLaws.{gives_same}
use Rattle.ioam_topo_entries.proofs.KeyLaws.{kept_by}
use Rattle.ioam_topo_entries.proofs.GoodsLaws.{goods_push}

pub held_faults : (nodes : List (List ℕ)) (earlier : List Members) (rows : DataRows) (place : ℕ) (m : Members) → HoldsData nodes earlier rows → place ≡ length earlier + 1
    → data_keys nodes place rows.taken.keys m ≡ data_faults nodes earlier m
held_faults nodes earlier rows place m holds there = rw (holds.keys, there)

pub data_added : (nodes : List (List ℕ)) (earlier : List Members) (m : Members) (row : NodeData) (old new : DataRows)
    → HoldsData nodes earlier old → IsNewData nodes old m row
    → new.items.items ≡ old.items.items ++ row ∷ [] → new.taken.keys ≡ old.taken.keys ++ (row.node.0, row.namespace.0) ∷ []
    → HoldsData nodes (earlier ++ m ∷ []) new
data_added nodes earlier m row old new holds fits items keys = record {
  items = goods_push (data_of nodes) earlier m row _ _ fits.is holds.items items;
  keys = goods_push (data_key nodes) earlier m (row.node.0, row.namespace.0) _ _ fits.key_is holds.keys keys;
  keyed = kept_by key_of_data old.items.items new.items.items row _ _ holds.keyed items keys;
}

fresh_under : (b : Bool) (y x : ℕ) (r : Result ℕ Why) → r ≡ cond b (Err Twice) (Ok y) → r ≡ Ok x → (b ≡ false) × (y ≡ x)
fresh_under true y x r are is = cc
fresh_under false y x r are is = (refl, cc)

-- a number that was found fresh is fresh
pub fresh_with_new : (a : ℕ) (seen : List (ℕ × ℕ)) (r : Result ℕ Why) (x : ℕ) → r ▷ fresh_with (Ok a) seen ≡ Ok x → list_any (is_pair a x) seen ≡ false
fresh_with_new a seen (Ok y) x is =
    let both : (list_any (is_pair a y) seen ≡ false) × (y ≡ x) = fresh_under (list_any (is_pair a y) seen) y x (Ok y ▷ fresh_with (Ok a) seen) refl is in
    let P : ℕ → Type 0 = λ z. list_any (is_pair a z) seen ≡ false in subst P both.1 both.0
fresh_with_new a seen (Err why) x is = cc

fresh_with_read : (a : ℕ) (seen : List (ℕ × ℕ)) (r : Result ℕ Why) (x : ℕ) → r ▷ fresh_with (Ok a) seen ≡ Ok x → r ≡ Ok x
fresh_with_read a seen (Ok y) x is =
    let both : (list_any (is_pair a y) seen ≡ false) × (y ≡ x) = fresh_under (list_any (is_pair a y) seen) y x (Ok y ▷ fresh_with (Ok a) seen) refl is in ap Ok both.1
fresh_with_read a seen (Err why) x is = cc

module _ (nodes : List (List ℕ)) (m : Members) (seen : List (ℕ × ℕ)) (node space : ℕ) (placed : data_node nodes m ≡ Ok node)
    (spaced : data_space m ▷ fresh_with (Ok node) seen ≡ Ok space) where
  -- behind a node and a namespace that were read, the faults of an entry are those of its values
  values_behind : (place : ℕ) → at DataTable place other_key (own_keys DataTable m) ≡ [] → value_keys place m ≡ data_keys nodes place seen m
  values_behind place own = behind_three own (ap (at DataTable place (codes "node")) placed)
      (ap (at DataTable place (codes "namespace")) (ap (λ r. data_space m ▷ fresh_with r seen) placed ∙ spaced)) where
        behind_three : {a b c d : List DomainFault} → a ≡ [] → b ≡ [] → c ≡ [] → d ≡ a ++ (b ++ (c ++ d))
        behind_three a b c = rw (a, b, c)

  -- and its values are those of that node, in a namespace of which it has no others
  new_data : (rows : DataRows) (row : NodeData) → rows.taken.keys ≡ seen → values_of node space m ≡ Ok row → row.node.0 ≡ node → row.namespace.0 ≡ space
      → IsNewData nodes rows m row
  new_data rows row keys is at_node in_space =
      let read : data_space m ≡ Ok space = fresh_with_read node seen (data_space m) space spaced in
      record {
        is = rw (placed, read) is;
        key_is = rw (placed, read, at_node, in_space);
        new_key = rw (at_node, in_space, keys) (fresh_with_new node seen (data_space m) space spaced);
      }

  -- what such an entry gives is what its values give
  pub row_behind : (place : ℕ) (rows : DataRows) (read : Result NodeData DomainRefused) → rows.taken.keys ≡ seen → at DataTable place other_key (own_keys DataTable m) ≡ []
      → Gives read (value_keys place m) (λ row. (values_of node space m ≡ Ok row) × (row.node.0 ≡ node) × (row.namespace.0 ≡ space))
      → Gives read (data_keys nodes place seen m) (IsNewData nodes rows m)
  row_behind place rows (Ok row) keys own is = (sym (values_behind place own) ∙ is.0, new_data rows row keys is.1.0 is.1.1 is.1.2)
  row_behind place rows (Err refused) keys own is = gives_same refused _ _ _ _ (values_behind place own) is
