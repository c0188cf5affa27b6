-- What entries read as, of those that read as something, and what is compared with it.
use Rattle.std.specs.Prelude.{ℕ, Bool, List, [], ◌∷◌, Option, Some, None, Result, Ok, Err, slice_get, unwrap_or, ◌==◌, if◌then◌else◌}
use Rattle.std.specs.List.{list_any}
use Rattle.toml.specs.Data.{Members}
use Rattle.ioam_data.specs.declared.namespace.Namespace.{Namespace}
use Rattle.ioam_topo.specs.declared.parts.Node.{Node}
use Rattle.ioam_topo_values.specs.declared.why.Why.{Why}
use Rattle.ioam_topo_values.specs.declared.why.Why.TheVariants.{Unknown, Twice, Range}
use Rattle.ioam_topo.specs.Keyed.{place_of}

-- what was read, in front of others
abbrev pub kept : {A : Type 0} → Result A Why → List A → List A
kept (Ok x) xs = x ∷ xs
kept (Err why) xs = xs

-- what entries read as, of those that aren't faulty
abbrev pub goods : {A : Type 0} → (Members → Result A Why) → List Members → List A
goods read [] = []
goods read (m ∷ ms) = kept (read m) (goods read ms)

-- what equals none of those seen
abbrev pub fresh : {A : Type 0} → (A → A → Bool) → List A → A → Result A Why
fresh same seen x = if list_any (same x) seen then Err Twice else Ok x

-- a place that is there
abbrev pub there : Option ℕ → Result ℕ Why
there None = Err Unknown
there (Some i) = Ok i

-- a name that names something
abbrev pub known : List (List ℕ) → List ℕ → Result ℕ Why
known names name = there (place_of names name)

-- a place other than one that was read
abbrev pub differs : Result ℕ Why → ℕ → Result ℕ Why
differs (Ok i) j = if i == j then Err Range else Ok j
differs (Err why) j = Ok j

-- a place whose node, where it is known, is the one that was read
abbrev pub agrees : Result ℕ Why → Result ℕ Why → ℕ → Result ℕ Why
agrees (Ok node) (Ok end) i = if node == end then Ok i else Err Range
agrees _ _ i = Ok i

-- what was read at a place
abbrev pub read_at : List (Result ℕ Why) → ℕ → Result ℕ Why
read_at ends i = unwrap_or (slice_get ends i) (Err Unknown)

-- the namespaces that a node lists
abbrev pub list_of : Node → Result (List Namespace) Why
list_of node = Ok node.namespaces
