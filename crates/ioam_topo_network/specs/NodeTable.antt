-- The table `node`.
use Rattle.std.specs.Prelude.{ℕ, ◌+◌, nat_eq, codes, List, [], ◌++◌, length, Result, Ok}
use Rattle.std.specs.Str.{bytes_eq}
use Rattle.toml.specs.Data.{Members, get_member}
use Rattle.ioam_data.specs.declared.namespace.Namespace.{Namespace}
use Rattle.ioam_topo_values.specs.declared.why.Why.{Why}
use Rattle.ioam_topo_values.specs.Reads.{◌▷◌, needed, optional}
use Rattle.ioam_topo_values.specs.Numbers.{number}
use Rattle.ioam_topo_values.specs.Texts.{name}
use Rattle.ioam_topo_values.specs.Addresses.{address}
use Rattle.ioam_topo_values.specs.Entries.{namespaces}
use Rattle.ioam_topo_entries.specs.declared.words.Table.TheVariants.{NodeTable}
use Rattle.ioam_topo_entries.specs.declared.fault.DomainFault.{DomainFault}
use Rattle.ioam_topo.specs.declared.parts.Node.{Node}
use Rattle.ioam_topo_entries.specs.Faults.{at, other_key}
use Rattle.ioam_topo_entries.specs.Goods.{goods, fresh}
use Rattle.ioam_topo_entries.specs.Keys.{own_keys}

-- the name of a node, which is needed
abbrev pub node_name : Members → Result (List ℕ) Why
node_name m = needed name (get_member (codes "name") m)

-- 0 to 2^56 - 1
abbrev pub node_id : Members → Result ℕ Why
node_id m = needed (number 0 72057594037927935) (get_member (codes "id") m)

-- the address of a node, which is needed
abbrev pub node_address : Members → Result ℕ Why
node_address m = needed address (get_member (codes "address") m)

-- the namespaces that a node lists; none where the key is absent
abbrev pub node_spaces : Members → Result (List Namespace) Why
node_spaces m = optional [] namespaces (get_member (codes "namespaces") m)

-- the namespaces that a node of a name lists
abbrev pub node_list : Members → Result (Result (List Namespace) Why) Why
node_list m = node_name m ▷ (λ name. Ok (node_spaces m))

-- a node
abbrev pub node_of : Members → Result Node Why
node_of m = node_name m ▷ (λ name. node_id m ▷ (λ id. node_address m ▷ (λ address. node_spaces m ▷ (λ spaces.
    Ok (record { name = name; id = id; address = address; namespaces = spaces })))))

-- the faults of the entry at a place, with these names, ids and addresses before it
abbrev pub node_keys : ℕ → List (List ℕ) → List ℕ → List ℕ → Members → List DomainFault
node_keys place names ids addresses m =
    at NodeTable place other_key (own_keys NodeTable m)
    ++ (at NodeTable place (codes "name") (node_name m ▷ fresh bytes_eq names)
    ++ (at NodeTable place (codes "id") (node_id m ▷ fresh nat_eq ids)
    ++ (at NodeTable place (codes "address") (node_address m ▷ fresh nat_eq addresses)
    ++ at NodeTable place (codes "namespaces") (node_spaces m))))

-- the faults of an entry behind others
abbrev pub node_faults : List Members → Members → List DomainFault
node_faults earlier m = node_keys (length earlier + 1) (goods node_name earlier) (goods node_id earlier) (goods node_address earlier) m
