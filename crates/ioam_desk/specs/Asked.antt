-- What calls that open names leave of a side: the names that were asked for, and their slots.
use Rattle.std.specs.Prelude.{◌≡◌, ℕ, ◌+◌, List, ◌++◌, length, take}
use Rattle.ioam_desk.specs.Desk.{Side}

-- the names that were given to an opening call are a front of this list
abbrev pub AsksFront : List (List ℕ) → List (List ℕ) → List (List ℕ) → Type 0
AsksFront old new names = (count : ℕ) × (new ≡ old ++ take count names)

-- each name that was given to an opening call has its slot
abbrev pub HaveSlots : Side → Side → Type 0
HaveSlots old new = new.slots + length old.asked ≡ old.slots + length new.asked
