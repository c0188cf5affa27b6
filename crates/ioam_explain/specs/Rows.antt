-- The list of rules: a row is nothing if its rule holds, and else the reason.
use Rattle.std.specs.Prelude.{ℕ, ◌+◌, Bool, ◌==◌, not, if◌then◌else◌, List, [], ◌∷◌, length, slice_index, Option, Some, None}
use Rattle.ioam_explain.specs.declared.reason.Reason.{Reason}
use Rattle.ioam_explain.specs.declared.reason.Rule.{Rule}
use Rattle.ioam_explain.specs.declared.reason.Value.{Value}
use Rattle.ioam_explain.specs.declared.reason.Value.TheVariants.{Number, Octet}

-- how many octets two lists begin with in common
unfoldable pub common : List ℕ → List ℕ → ℕ
common [] wanted = 0
common (octet ∷ found) [] = 0
common (octet ∷ found) (other ∷ wanted) = if octet == other then common found wanted + 1 else 0

-- the reason of a rule, if it is broken: the trace, 0 for none, the octet, what is there and what is wanted
unfoldable pub row : Bool → Rule → ℕ → ℕ → Value → Value → Option Reason
row broken rule trace at found wanted =
    if broken then Some (record { rule = rule; trace = trace; at = at; found = found; wanted = wanted }) else None

-- of a rule that wants a number
unfoldable pub number : Rule → ℕ → ℕ → ℕ → ℕ → Option Reason
number rule trace at found wanted = row (not (found == wanted)) rule trace at (Number found) (Number wanted)

-- of a rule that wants an octet
unfoldable pub octet : Rule → ℕ → ℕ → ℕ → ℕ → Option Reason
octet rule trace at found wanted = row (not (found == wanted)) rule trace at (Octet found) (Octet wanted)

-- of a rule that wants octets, from octet `at` on: the first that differs
unfoldable pub differing : Rule → ℕ → ℕ → List ℕ → List ℕ → Option Reason
differing rule trace at found wanted =
    row (not (common found wanted == length found)) rule trace (at + common found wanted)
    (Octet (slice_index found (common found wanted))) (Octet (slice_index wanted (common found wanted)))

-- the first reason of the list
unfoldable pub first_broken : List (Option Reason) → Option Reason
first_broken [] = None
first_broken (None ∷ rows) = first_broken rows
first_broken (Some reason ∷ rows) = Some reason
