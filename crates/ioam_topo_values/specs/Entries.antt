-- The entries of a table, and lists of numbers.
use Rattle.std.specs.Prelude.{ℕ, Bool, true, false, not, nat_le, nat_eq, ◌&&◌, List, [], ◌∷◌, ◌++◌, length, Option, Some, None, Result, Ok, Err, if◌then◌else◌}
use Rattle.std.specs.List.{list_any}
use Rattle.toml.specs.Data.{Data, array, table, integer, Items, no_items, item, Members}
use Rattle.ioam_data.specs.declared.namespace.Namespace.{Namespace}
use Rattle.ioam_topo_values.specs.declared.why.Why.{Why}
use Rattle.ioam_topo_values.specs.declared.why.Why.TheVariants.{Kind, Twice, TooMany}
use Rattle.ioam_topo_values.specs.Reads.{◌▷◌}
use Rattle.ioam_topo_values.specs.Numbers.{number}

-- something in front of what was read
abbrev pub in_front : {A : Type 0} → A → Result (List A) Why → Result (List A) Why
in_front x (Ok xs) = Ok (x ∷ xs)
in_front x (Err why) = Err why

-- items that are all tables
abbrev pub tables : Items → Result (List Members) Why
tables no_items = Ok []
tables (item (table m) ds) = in_front m (tables ds)
tables (item _ ds) = Err Kind

-- an array of tables
abbrev pub table_array : Data → Result (List Members) Why
table_array (array ds) = tables ds
table_array _ = Err Kind

-- an array of tables, which may be absent: the same as an empty one
abbrev pub array_at : Option Data → Result (List Members) Why
array_at None = Ok []
array_at (Some d) = table_array d

-- no more than the most
abbrev pub at_most : {A : Type 0} → ℕ → List A → Result (List A) Why
at_most most xs = if nat_le (length xs) most then Ok xs else Err TooMany

-- a table of no more than so many entries
abbrev pub rows : ℕ → Option Data → Result (List Members) Why
rows most d = array_at d ▷ at_most most

-- what was read, or nothing
abbrev pub or_none : {A : Type 0} → Result (List A) Why → List A
or_none (Ok xs) = xs
or_none (Err why) = []

-- the entries of a table, none where it is no array of tables
abbrev pub entries : Option Data → List Members
entries d = or_none (array_at d)

-- whether the items are all whole numbers
abbrev pub are_whole : Items → Bool
are_whole no_items = true
are_whole (item (integer z) ds) = are_whole ds
are_whole (item _ ds) = false

-- the namespace of a number
abbrev pub namespace : ℕ → Namespace
namespace n = record { 0 = n }

-- a namespace in front of others
abbrev pub space_front : Result ℕ Why → Result (List Namespace) Why → Result (List Namespace) Why
space_front (Ok n) spaces = in_front (namespace n) spaces
space_front (Err why) spaces = Err why

-- items that are all numbers of 16 bits
abbrev pub spaces : Items → Result (List Namespace) Why
spaces no_items = Ok []
spaces (item d ds) = space_front (number 0 65535 d) (spaces ds)

-- whether each is none of those before it
abbrev pub apart_from : List ℕ → List Namespace → Bool
apart_from seen [] = true
apart_from seen (s ∷ ss) = not (list_any (nat_eq s.0) seen) && apart_from (seen ++ s.0 ∷ []) ss

-- these namespaces, where no two of them are the same
abbrev pub apart : List Namespace → Result (List Namespace) Why
apart ss = if apart_from [] ss then Ok ss else Err Twice

-- a list of no more namespaces than a node may list, no two equal
abbrev pub namespaces : Data → Result (List Namespace) Why
namespaces (array ds) = if are_whole ds then spaces ds ▷ apart ▷ at_most 16 else Err Kind
namespaces _ = Err Kind
