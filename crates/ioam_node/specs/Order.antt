-- The reasons why a packet is dropped at one place, as a list in the order in which they are looked for.
use Rattle.std.specs.Prelude.{◌≡◌, ◌⊎◌, ⊤, List, [], ◌∷◌}
use Rattle.ioam_node.specs.declared.reason.Reason.{Reason}

-- a reason, and when it holds
pub record Stop : Type 1 where
  pub why : Reason
  pub holds : Type 0

-- a row of a list of stops
abbrev pub stop : Reason → Type 0 → Stop
stop why holds = record { why = why; holds = holds }

-- the first stop of a list that holds has this reason
abbrev pub IsFirst : List Stop → Reason → Type 0
IsFirst [] why = ⊥
IsFirst (row ∷ rows) why = (row.holds × (row.why ≡ why)) ⊎ ((row.holds → ⊥) × IsFirst rows why)

-- no stop of a list holds
abbrev pub NoneHolds : List Stop → Type 0
NoneHolds [] = ⊤
NoneHolds (row ∷ rows) = (row.holds → ⊥) × NoneHolds rows
