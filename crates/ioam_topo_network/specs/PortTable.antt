-- The table `port`.
use Rattle.std.specs.Prelude.{ℕ, ◌+◌, codes, List, ◌++◌, length, Option, Result, Ok}
use Rattle.std.specs.Str.{bytes_eq}
use Rattle.toml.specs.Data.{Members, get_member}
use Rattle.ioam_topo_values.specs.declared.why.Why.{Why}
use Rattle.ioam_topo_values.specs.Reads.{◌▷◌, needed, maybe}
use Rattle.ioam_topo_values.specs.Numbers.{number}
use Rattle.ioam_topo_values.specs.Texts.{name, file_name}
use Rattle.ioam_topo_entries.specs.declared.words.Table.TheVariants.{PortTable}
use Rattle.ioam_topo_entries.specs.declared.fault.DomainFault.{DomainFault}
use Rattle.ioam_topo.specs.declared.parts.Port.{Port}
use Rattle.ioam_topo_entries.specs.Faults.{at, other_key}
use Rattle.ioam_topo_entries.specs.Goods.{goods, fresh, known}
use Rattle.ioam_topo_entries.specs.Keys.{own_keys}

-- the name of a port, which is needed
abbrev pub port_name : Members → Result (List ℕ) Why
port_name m = needed name (get_member (codes "name") m)

-- the id of a port's interface: 0 to 2^32 - 1
abbrev pub port_id : Members → Result ℕ Why
port_id m = needed (number 0 4294967295) (get_member (codes "id") m)

-- the file of the packets that arrive at it, where it has one
abbrev pub port_input : Members → Result (Option (List ℕ)) Why
port_input m = maybe file_name (get_member (codes "in") m)

-- the file of the packets that leave by it, which is needed
abbrev pub port_output : Members → Result (List ℕ) Why
port_output m = needed file_name (get_member (codes "out") m)

-- `nodes` are the names of the nodes
module _ (nodes : List (List ℕ)) where
  -- the node that a port is at, by its place
  abbrev pub port_node : Members → Result ℕ Why
  port_node m = needed name (get_member (codes "node") m) ▷ known nodes

  -- the node of a port of a name
  abbrev pub port_end : Members → Result (Result ℕ Why) Why
  port_end m = port_name m ▷ (λ name. Ok (port_node m))

  -- a port, where all its keys are read; else the first reason why not
  abbrev pub port_of : Members → Result Port Why
  port_of m = port_name m ▷ (λ name. port_node m ▷ (λ node. port_id m ▷ (λ id. port_input m ▷ (λ input. port_output m ▷ (λ output.
      Ok (record { name = name; node = record { 0 = node }; id = id; input = input; output = output }))))))

  -- the faults of the entry at a place, with these names before it
  abbrev pub port_keys : ℕ → List (List ℕ) → Members → List DomainFault
  port_keys place names m =
      at PortTable place other_key (own_keys PortTable m)
      ++ (at PortTable place (codes "name") (port_name m ▷ fresh bytes_eq names)
      ++ (at PortTable place (codes "node") (port_node m)
      ++ (at PortTable place (codes "id") (port_id m)
      ++ (at PortTable place (codes "in") (port_input m)
      ++ at PortTable place (codes "out") (port_output m)))))

  -- the faults of an entry behind others
  abbrev pub port_faults : List Members → Members → List DomainFault
  port_faults earlier m = port_keys (length earlier + 1) (goods port_name earlier) m
