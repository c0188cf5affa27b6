-- A namespace that is read, where a node knows it.
use Rattle.std.specs.Prelude.{ℕ, List, slice_get, unwrap_or, Result, Ok, Err, if◌then◌else◌}
use Rattle.ioam_data.specs.declared.namespace.Namespace.{Namespace}
use Rattle.ioam_topo_values.specs.declared.why.Why.{Why}
use Rattle.ioam_topo_values.specs.declared.why.Why.TheVariants.{Range, Unknown}
use Rattle.ioam_topo.specs.Spaces.{knows_space}

-- a namespace that a node, where its list is read, knows
abbrev pub known_in : Result (List Namespace) Why → ℕ → Result ℕ Why
known_in (Ok spaces) n = if knows_space spaces n then Ok n else Err Range
known_in (Err why) n = Ok n

-- the list of the node at a place
abbrev pub list_at : List (Result (List Namespace) Why) → ℕ → Result (List Namespace) Why
list_at lists i = unwrap_or (slice_get lists i) (Err Unknown)

-- a namespace that the node at a place, where that is read, knows
abbrev pub known_at : List (Result (List Namespace) Why) → Result ℕ Why → ℕ → Result ℕ Why
known_at lists (Ok i) n = known_in (list_at lists i) n
known_at lists (Err why) n = Ok n
