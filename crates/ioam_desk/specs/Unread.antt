-- An input slot in memory.
use Rattle.std.specs.Prelude.{ℕ, List, Bool}

-- what is left to read of a slot, and whether a read of it has answered 0
pub record Unread : Type 0 where
  pub left : List ℕ
  pub ended : Bool
