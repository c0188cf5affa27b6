-- Numbers that are apart from one another in some company: namespaces of one node, ids of one namespace.
use Rattle.std.specs.Prelude.{ℕ, List, Option, Some, None, Result, Ok, Err, if◌then◌else◌}
use Rattle.std.specs.List.{list_any}
use Rattle.ioam_topo_values.specs.declared.why.Why.{Why}
use Rattle.ioam_topo_values.specs.declared.why.Why.TheVariants.{Twice}
use Rattle.ioam_topo_values.specs.Reads.{◌▷◌}
use Rattle.ioam_topo.specs.Keyed.{is_pair}

-- a number that no pair has together with the first, where the first is read
abbrev pub fresh_with : Result ℕ Why → List (ℕ × ℕ) → ℕ → Result ℕ Why
fresh_with (Ok a) seen b = if list_any (is_pair a b) seen then Err Twice else Ok b
fresh_with (Err why) seen b = Ok b

-- the same of a number that may be absent
abbrev pub fresh_some : Result ℕ Why → List (ℕ × ℕ) → Option ℕ → Result (Option ℕ) Why
fresh_some a seen None = Ok None
fresh_some a seen (Some b) = fresh_with a seen b ▷ (λ x. Ok (Some x))
