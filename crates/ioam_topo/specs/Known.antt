-- Which namespaces a node of a domain knows.
use Rattle.std.specs.Prelude.{◌≡◌, ℕ, Bool, true, List, [], Option, Some, None, slice_get}
use Rattle.std.specs.List.{All}
use Rattle.ioam_data.specs.declared.namespace.Namespace.{Namespace}
use Rattle.ioam_topo.specs.declared.parts.Node.{Node}
use Rattle.ioam_topo.specs.declared.parts.Flow.{Flow}
use Rattle.ioam_topo.specs.Spaces.{knows_space}

-- the namespaces that a node, where it is there, lists
abbrev pub spaces_of : Option Node → List Namespace
spaces_of None = []
spaces_of (Some node) = node.namespaces

-- whether the node at a place knows a namespace
abbrev pub is_known : List Node → ℕ → ℕ → Bool
is_known nodes node space = knows_space (spaces_of (slice_get nodes node)) space

-- both ends of a flow know its namespace and that of each of its traces
pub record IsKnownAtEnds (nodes : List Node) (flow : Flow) : Type 0 where
  pub at_entry : is_known nodes flow.entry.0 flow.namespace.0 ≡ true
  pub at_exit : is_known nodes flow.exit.0 flow.namespace.0 ≡ true
  pub traces_at_entry : All (λ trace. is_known nodes flow.entry.0 trace.namespace.0 ≡ true) flow.traces
  pub traces_at_exit : All (λ trace. is_known nodes flow.exit.0 trace.namespace.0 ≡ true) flow.traces
