-- Inputs that are opened in order.
use Rattle.std.specs.Prelude.{◌≡◌, ℕ, ◌+◌, ◌<◌, ⊤, Bool, false, IsTrue, List, length, get_or, Some}
use Rattle.ioam_desk.specs.Desk.{Side, Reading, Writing, holds}
use Rattle.ioam_desk.specs.declared.fault.DeskFault.{DeskFault}
use Rattle.ioam_desk.specs.declared.fault.DeskFault.TheVariants.{Failed, NoMemory}
use Rattle.ioam_desk_outputs.specs.Names.{name_at}

-- there are `count` slots, numbered from `base` on
pub record AreSlots (base count : ℕ) (slots : List ℕ) : Type 0 where
  pub size : length slots ≡ count
  pub number : (i : ℕ) → i < length slots → get_or slots i 0 ≡ base + i

-- an input that can't be opened leaves fewer slots than names
abbrev pub OpensFewer : Side → Side → ℕ → DeskFault → Type 0
OpensFewer old new count Failed = new.slots < old.slots + count
OpensFewer old new count NoMemory = ⊤

-- each of the names that was opened since is unread: all that it held then is left
abbrev pub AreUnread : Bool → Reading → Reading → Writing → List (List ℕ) → Type 0
AreUnread tells old new outputs names = IsTrue tells → (i : ℕ) → old.side.slots + i < new.side.slots
    → holds outputs (name_at names i) ≡ Some (new.left (old.side.slots + i))

-- none of the inputs that were opened since has ended
abbrev pub AreUnended : Reading → Reading → Type 0
AreUnended old new = (i : ℕ) → old.side.slots + i < new.side.slots → new.ended (old.side.slots + i) ≡ false
