-- The keys that each table lists.
use Rattle.std.specs.Prelude.{ℕ, Bool, true, ◌&&◌, codes, List, [], ◌∷◌, ◌++◌, map, Result, Ok, Err, if◌then◌else◌}
use Rattle.std.specs.List.{list_any}
use Rattle.std.specs.Str.{bytes_eq}
use Rattle.toml.specs.Data.{Members, no_members, member}
use Rattle.ioam_topo_values.specs.declared.why.Why.{Why}
use Rattle.ioam_topo_values.specs.declared.why.Why.TheVariants.{Unknown}
use Rattle.ioam_topo_entries.specs.declared.words.Table.{Table}
use Rattle.ioam_topo_entries.specs.Rows.{NumberRow, row, row_key}
use Rattle.ioam_topo_entries.specs.declared.words.Table.TheVariants.{Top, NodeTable, LinkTable, PortTable, RouteTable, DataTable, FlowTable, ExtraTable}

-- the needed numbers of a link: the ids of its interface at the node that it is from and at the node that it leads to, its delay in nanoseconds,
-- and the greatest packet that it takes, in octets
abbrev pub link_rows : List NumberRow
link_rows = row (codes "out_id") 0 4294967295 ∷ row (codes "in_id") 0 4294967295 ∷ row (codes "delay") 0 1000000000 ∷ row (codes "mtu") 1280 65575 ∷ []

-- the keys that an entry of each table, and the file itself, may have
abbrev pub listed : Table → List (List ℕ)
listed Top = codes "format" ∷ codes "packets" ∷ codes "node" ∷ codes "link" ∷ codes "port" ∷ codes "route" ∷ codes "data" ∷ codes "flow"
    ∷ codes "extra" ∷ []
listed NodeTable = codes "name" ∷ codes "id" ∷ codes "address" ∷ codes "namespaces" ∷ []
listed LinkTable = codes "name" ∷ codes "from" ∷ codes "to" ∷ (map row_key link_rows ++ codes "tap" ∷ [])
listed PortTable = codes "name" ∷ codes "node" ∷ codes "id" ∷ codes "in" ∷ codes "out" ∷ []
listed RouteTable = codes "node" ∷ codes "prefix" ∷ codes "link" ∷ codes "port" ∷ []
listed DataTable = codes "node" ∷ codes "namespace" ∷ codes "short" ∷ codes "wide" ∷ codes "schema" ∷ codes "snapshot" ∷ []
listed FlowTable = codes "name" ∷ codes "entry" ∷ codes "exit" ∷ codes "source" ∷ codes "target" ∷ codes "namespace" ∷ codes "hops"
    ∷ codes "label" ∷ codes "trace" ∷ codes "capacity" ∷ codes "edge" ∷ codes "direct" ∷ codes "every" ∷ codes "flow_id" ∷ codes "limit" ∷ []
listed ExtraTable = codes "flow" ∷ codes "namespace" ∷ codes "trace" ∷ codes "capacity" ∷ []

-- whether a table lists a key
abbrev pub is_listed : Table → List ℕ → Bool
is_listed table key = list_any (bytes_eq key) (listed table)

-- whether it lists all the keys
abbrev pub all_listed : Table → Members → Bool
all_listed table no_members = true
all_listed table (member key d ms) = is_listed table key && all_listed table ms

-- the keys that are there are all listed
abbrev pub own_keys : Table → Members → Result (Unit {0}) Why
own_keys table m = if all_listed table m then Ok tt else Err Unknown
