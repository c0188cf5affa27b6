-- Which namespaces a node knows.
use Rattle.std.specs.Prelude.{ℕ, Bool, nat_eq, ◌||◌, List}
use Rattle.std.specs.List.{list_any}
use Rattle.ioam_data.specs.declared.namespace.Namespace.{Namespace}

-- whether a node that lists these knows a namespace; every node knows namespace 0
abbrev pub knows_space : List Namespace → ℕ → Bool
knows_space spaces n = nat_eq n 0 || list_any (λ space. nat_eq n space.0) spaces
