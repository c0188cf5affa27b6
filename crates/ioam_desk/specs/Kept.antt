-- What calls leave as it was: slots that were there before, and names that are not written.
use Rattle.std.specs.Prelude.{◌≡◌, ℕ, ◌<◌, ◌≤◌, List, ◌++◌, Contains}
use Rattle.ioam_desk.specs.Desk.{Reading, Writing}

-- the input slots that were there are as they were
pub record KeepsInputs (old new : Reading) : Type 0 where
  pub left : (k : ℕ) → k < old.side.slots → new.left k ≡ old.left k
  pub ended : (k : ℕ) → k < old.side.slots → new.ended k ≡ old.ended k

-- what was written to the output slots that were there is what it was, and each name that wasn't given
-- to the opening call of outputs since is tied to what it was
pub record KeepsOutputs (old new : Writing) : Type 0 where
  pub slots : old.side.slots ≤ new.side.slots
  pub asked : List (List ℕ)
  pub asks : new.side.asked ≡ old.side.asked ++ asked
  pub written : (k : ℕ) → k < old.side.slots → new.written k ≡ old.written k
  pub files : (name : List ℕ) → (Contains asked name → ⊥) → new.files name ≡ old.files name
