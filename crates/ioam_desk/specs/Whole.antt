-- A file read whole, and octets written whole.
use Rattle.std.specs.Prelude.{◌≡◌, ℕ, ◌+◌, ◌-◌, ◌<◌, ◌≤◌, ◌⊎◌, Bool, true, false, IsTrue, IsSomeAnd, List, [], ◌∷◌, ◌++◌, length, vec_len, Option, Some, Result, Ok, Err}
use Rattle.ioam_desk.specs.Desk.{Side, Reading, Rose, Fails, SameBut, opened_side}
use Rattle.ioam_desk.specs.declared.whole.Whole.{Whole}
use Rattle.ioam_desk.specs.declared.fault.WholeFault.{WholeFault}
use Rattle.ioam_desk.specs.declared.fault.WholeFault.TheVariants.{Failed, TooLong, NoMemory}
use Rattle.ioam_desk.specs.declared.fault.WriteAll.{WriteAll}
use Rattle.ioam_desk.specs.declared.fault.WriteAll.TheVariants as write

-- these octets were handed out of a slot, and nothing else changed
pub record Hands (tells : Bool) (old new : Reading) (slot : ℕ) (octets : List ℕ) : Type 0 where
  pub side : new.side ≡ old.side
  pub other_left : SameBut slot old.left new.left
  pub other_ended : SameBut slot old.ended new.ended
  pub left : IsTrue tells → old.left slot ≡ octets ++ new.left slot

-- these octets were taken: they are kept, or are more than the limit
pub record Gathers (begun : Whole) (octets : List ℕ) (now : Whole) : Type 0 where
  pub limit : now.limit ≡ begun.limit
  pub kept : now.long ≡ false → now.octets.items ≡ octets
  pub fits : now.long ≡ false → length octets ≤ begun.limit
  pub long : now.long ≡ true → begun.limit < length octets

-- how many octets are still read, at most: what the limit leaves, and a piece; or none
abbrev pub room_after : Bool → ℕ → ℕ
room_after false left = left + 65536
room_after true left = 0

abbrev pub room_of : Whole → ℕ
room_of whole = room_after whole.long (whole.limit - vec_len whole.octets)

-- a name was read whole, by a new slot that has ended, and no more than `limit` octets came
pub record ReadsWhole (tells : Bool) (old new : Reading) (held : Option (List ℕ)) (name : List ℕ) (limit : ℕ) (octets : List ℕ) : Type 0 where
  pub side : new.side ≡ opened_side old.side name
  pub other_left : SameBut old.side.slots old.left new.left
  pub other_ended : SameBut old.side.slots old.ended new.ended
  pub octets_are : IsTrue tells → held ≡ Some octets
  pub fits : length octets ≤ limit
  pub ended : IsTrue tells → IsTrue (new.ended old.side.slots)

-- the name was given to the opening call, once
abbrev pub Asks : Side → Side → List ℕ → Type 0
Asks old new name = new.asked ≡ old.asked ++ name ∷ []

-- the slots that were there are as they were, and at most one is new
pub record KeepsSlots (old new : Reading) : Type 0 where
  pub left : SameBut old.side.slots old.left new.left
  pub ended : SameBut old.side.slots old.ended new.ended
  pub slots : (new.side.slots ≡ old.side.slots) ⊎ (new.side.slots ≡ old.side.slots + 1)

-- why a name was not read whole
abbrev pub FailsWhole : Bool → Reading → Reading → Option (List ℕ) → List ℕ → ℕ → WholeFault → Type 0
FailsWhole tells old new held name limit Failed = Rose old.side.faults new.side.faults × Asks old.side new.side name × KeepsSlots old new
FailsWhole tells old new held name limit (TooLong most) = (most ≡ limit) × (new.side ≡ opened_side old.side name)
    × (IsTrue tells → IsSomeAnd held (λ octets. limit < length octets)) × KeepsSlots old new
FailsWhole tells old new held name limit NoMemory = ((new.side ≡ old.side) ⊎ (new.side ≡ opened_side old.side name)) × KeepsSlots old new

-- how many of so many octets were written
abbrev pub sent : ℕ → Result (Unit {0}) WriteAll → ℕ
sent all (Ok _) = all
sent all (Err (write.Failed written)) = written
sent all (Err (write.NoMemory written)) = written

-- what a write did to the counts: a failure only where they rose
abbrev pub WritesSide : Side → Result (Unit {0}) WriteAll → Side → Type 0
WritesSide old (Ok _) new = new ≡ old
WritesSide old (Err (write.Failed written)) new = Fails old new
WritesSide old (Err (write.NoMemory written)) new = new ≡ old
