-- A file that is read in pieces for what takes its octets.
use Rattle.std.specs.Prelude.{◌≡◌, ℕ, ◌+◌, ◌<◌, ◌≤◌, ◌⊎◌, Bool, false, IsTrue, IsSomeAnd, List, [], ◌++◌, length, Option, Some}
use Rattle.ioam_desk.specs.Desk.{Reading, Rose, Fails, SameBut, opened_side}
use Rattle.ioam_desk.specs.Whole.{Asks, Hands, KeepsSlots}
use Rattle.ioam_desk.specs.declared.fault.DeskFault.{DeskFault}
use Rattle.ioam_desk.specs.declared.fault.DeskFault.TheVariants.{Failed, NoMemory}

module _ {T : Type 0} (Stands : T → List ℕ → T → Type 0) where
  -- it has taken some octets
  pub record Standing (now : T) : Type 0 where
    pub begun : T
    pub octets : List ℕ
    pub stands : Stands begun octets now

  module _ (full : T → Bool) where
    -- an open slot ended when `now` had taken what was left of it, or `now` was full before
    pub record TakesSlot (tells : Bool) (begun : T) (old new : Reading) (slot : ℕ) (now : T) : Type 0 where
      pub octets : List ℕ
      pub stands : Stands begun octets now
      pub hands : Hands tells old new slot octets
      pub whole : full now ≡ false → IsTrue tells → (new.left slot ≡ []) × IsTrue (new.ended slot)

    -- a new slot was opened, and ended when `now` had taken all that the name holds, or `now` was full before
    pub record TakesFile (tells : Bool) (begun : T) (old new : Reading) (held : Option (List ℕ)) (name : List ℕ) (now : T) : Type 0 where
      pub side : new.side ≡ opened_side old.side name
      pub other_left : SameBut old.side.slots old.left new.left
      pub other_ended : SameBut old.side.slots old.ended new.ended
      pub octets : List ℕ
      pub stands : Stands begun octets now
      pub held_is : IsTrue tells → held ≡ Some (octets ++ new.left old.side.slots)
      pub whole : full now ≡ false → IsTrue tells → (new.left old.side.slots ≡ []) × IsTrue (new.ended old.side.slots)

-- why an open slot was not read: a read failed, or memory ran out
abbrev pub FailsSlot : Reading → Reading → ℕ → DeskFault → Type 0
FailsSlot old new slot Failed = Fails old.side new.side × SameBut slot old.left new.left × SameBut slot old.ended new.ended
FailsSlot old new slot NoMemory = (new.side ≡ old.side) × SameBut slot old.left new.left × SameBut slot old.ended new.ended

-- why a name was not read: an opening or a read failed, or memory ran out
abbrev pub FailsFile : Reading → Reading → List ℕ → DeskFault → Type 0
FailsFile old new name Failed = Rose old.side.faults new.side.faults × Asks old.side new.side name × KeepsSlots old new
FailsFile old new name NoMemory = ((new.side ≡ old.side) ⊎ (new.side ≡ opened_side old.side name)) × KeepsSlots old new

-- at most `most` octets of a slot were handed out
abbrev pub HandsFew : Bool → ℕ → Reading → Reading → ℕ → Type 0
HandsFew tells most old new slot = IsTrue tells → length (old.left slot) ≤ length (new.left slot) + most

-- at most `most` octets of what a name holds were handed out, if its slot was opened
abbrev pub ReadsFew : Bool → ℕ → Reading → Reading → Option (List ℕ) → Type 0
ReadsFew tells most old new held = IsTrue tells → old.side.slots < new.side.slots → IsSomeAnd held (λ octets. length octets ≤ length (new.left old.side.slots) + most)
