-- A reader of export records as its callers see it.
use Rattle.std.specs.Prelude.{ℕ, List}

-- the place in the input of the first octet that was not yet taken, and the octets from there on that
-- were fed; and how many octets that it took it still keeps
pub record Reading : Type 0 where
  pub start : ℕ
  pub pending : List ℕ
  pub given : ℕ
