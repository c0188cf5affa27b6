-- The traces that the packets of a flow carry.
use Rattle.std.specs.Prelude.{◌≡◌, ◌≢◌, ◌≤◌, ℕ, true, List, [], ◌∷◌, Option, Some, None}
use Rattle.std.specs.List.{AllPairs}
use Rattle.ioam_data.specs.Kind.{is_entry_type}
use Rattle.ioam_data.specs.declared.namespace.Namespace.{Namespace}
use Rattle.ioam_topo.specs.declared.traces.FlowTrace.{FlowTrace}

-- a flow's own trace, where it has one: of its namespace, of this type and with so many free words
abbrev pub own_traces : Namespace → Option ℕ → Option ℕ → List FlowTrace
own_traces space (Some kind) (Some n) = record { namespace = space; kind = kind; capacity = n } ∷ []
own_traces space (Some kind) None = []
own_traces space None n = []

-- its type is one that entry nodes write, and it has room for a word at least, and for no more than an option holds
pub record IsFlowTrace (trace : FlowTrace) : Type 0 where
  pub kind_is : is_entry_type trace.kind ≡ true
  pub capacity_some : 1 ≤ trace.capacity
  pub capacity_most : trace.capacity ≤ 61

-- no two are of one namespace
abbrev pub AreOfOwnSpaces : List FlowTrace → Type 0
AreOfOwnSpaces traces = AllPairs (λ a b. a.namespace.0 ≢ b.namespace.0) traces
