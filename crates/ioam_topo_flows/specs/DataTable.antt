-- The table `data`.
use Rattle.std.specs.Prelude.{ℕ, ◌+◌, is_some, codes, List, ◌++◌, length, Option, Result, Ok}
use Rattle.toml.specs.Data.{Members, get_member}
use Rattle.ioam_topo_values.specs.declared.why.Why.{Why}
use Rattle.ioam_topo_values.specs.Reads.{◌▷◌, needed, maybe}
use Rattle.ioam_topo_values.specs.Pairs.{beside}
use Rattle.ioam_topo_values.specs.Numbers.{number}
use Rattle.ioam_topo_values.specs.Texts.{name}
use Rattle.ioam_topo_values.specs.Octets.{octets}
use Rattle.ioam_topo_values.specs.Entries.{entries}
use Rattle.ioam_topo_entries.specs.declared.words.Table.TheVariants.{DataTable}
use Rattle.ioam_topo_entries.specs.declared.fault.DomainFault.{DomainFault}
use Rattle.ioam_topo.specs.declared.parts.NodeData.{NodeData}
use Rattle.ioam_topo_entries.specs.Faults.{at, other_key}
use Rattle.ioam_topo_entries.specs.Goods.{goods, known}
use Rattle.ioam_topo_flows.specs.Apart.{fresh_with}
use Rattle.ioam_topo_entries.specs.Keys.{own_keys}

-- the entries of the table
abbrev pub data_entries : Members → List Members
data_entries t = entries (get_member (codes "data") t)

-- the namespace of an entry: 0 to 65,535, and needed
abbrev pub data_space : Members → Result ℕ Why
data_space m = needed (number 0 65535) (get_member (codes "namespace") m)

-- the namespace specific data of 32 bits, where it has one (RFC 9197 section 4.4.2.8)
abbrev pub data_short : Members → Result (Option ℕ) Why
data_short m = maybe (number 0 4294967295) (get_member (codes "short") m)

-- the wide namespace specific data, where it has one: 0 to 2^63 - 1
abbrev pub data_wide : Members → Result (Option ℕ) Why
data_wide m = maybe (number 0 9223372036854775807) (get_member (codes "wide") m)

-- a schema and a snapshot, each needed with the other
abbrev pub data_schema : Members → Result (Option ℕ) Why
data_schema m = maybe (number 0 16777214) (get_member (codes "schema") m) ▷ beside (is_some (get_member (codes "snapshot") m))

-- the opaque state snapshot, which is needed where there is a schema
abbrev pub data_snapshot : Members → Result (Option (List ℕ)) Why
data_snapshot m = maybe octets (get_member (codes "snapshot") m) ▷ beside (is_some (get_member (codes "schema") m))

-- the data of a node in a namespace, where their keys are read; else the first reason why not
abbrev pub values_of : ℕ → ℕ → Members → Result NodeData Why
values_of node space m = data_short m ▷ (λ short. data_wide m ▷ (λ wide. data_schema m ▷ (λ schema. data_snapshot m ▷ (λ snapshot.
    Ok (record { node = record { 0 = node }; namespace = record { 0 = space }; short = short; wide = wide; schema = schema; snapshot = snapshot })))))

-- the faults of these keys
abbrev pub value_keys : ℕ → Members → List DomainFault
value_keys place m = at DataTable place (codes "short") (data_short m) ++ (at DataTable place (codes "wide") (data_wide m)
    ++ (at DataTable place (codes "schema") (data_schema m) ++ at DataTable place (codes "snapshot") (data_snapshot m)))

-- `nodes` are the names of the nodes
module _ (nodes : List (List ℕ)) where
  -- the node of an entry, by its place
  abbrev pub data_node : Members → Result ℕ Why
  data_node m = needed name (get_member (codes "node") m) ▷ known nodes

  -- what no two entries may share
  abbrev pub data_key : Members → Result (ℕ × ℕ) Why
  data_key m = data_node m ▷ (λ node. data_space m ▷ (λ space. Ok (node, space)))

  -- the data of a node in a namespace, where all keys are read; else the first reason why not
  abbrev pub data_of : Members → Result NodeData Why
  data_of m = data_node m ▷ (λ node. data_space m ▷ (λ space. values_of node space m))

  -- the faults of the entry at a place, with these nodes and namespaces before it
  abbrev pub data_keys : ℕ → List (ℕ × ℕ) → Members → List DomainFault
  data_keys place seen m =
      at DataTable place other_key (own_keys DataTable m)
      ++ (at DataTable place (codes "node") (data_node m)
      ++ (at DataTable place (codes "namespace") (data_space m ▷ fresh_with (data_node m) seen)
      ++ value_keys place m))

  -- the faults of an entry behind others
  abbrev pub data_faults : List Members → Members → List DomainFault
  data_faults earlier m = data_keys (length earlier + 1) (goods data_key earlier) m
