-- The outside as a program sees it: names that hold octets, inputs that are read to their end, and
-- outputs that grow.
use Rattle.std.specs.Prelude.{◌≡◌, ◌≢◌, ℕ, ◌+◌, ◌-◌, ◌^◌, ◌≤◌, ◌↔◌, min, Bool, false, IsTrue, List, [], ◌∷◌, ◌++◌, length, take, drop, Option, Some, option_map, Result, Ok, Err}
use Rattle.ioam_desk.specs.declared.fault.DeskFault.{DeskFault}
use Rattle.ioam_desk.specs.declared.fault.DeskFault.TheVariants.{Failed, NoMemory}

-- One kind of slot, inputs or outputs: how many of its calls failed, the names that were given to
-- its opening call so far, in order, and how many slots it has. They are numbered 0, 1, 2, ..
pub record Side : Type 0 where
  pub faults : ℕ
  pub asked : List (List ℕ)
  pub slots : ℕ

-- the inputs: what is left to read of each slot, and whether a read of it has answered 0
pub record Reading : Type 0 where
  pub side : Side
  pub left : ℕ → List ℕ
  pub ended : ℕ → Bool

-- what a name holds: octets of its own, or what was written to an output slot
pub data Held : Type 0 where
  Stored : List ℕ → Held
  Written : ℕ → Held

-- the outputs: what was written to each slot, and what each name holds
pub record Writing : Type 0 where
  pub side : Side
  pub written : ℕ → List ℕ
  pub files : List ℕ → Option Held

-- the octets of what a name holds: those stored under it, or those written so far to the slot that it is tied to
abbrev pub held_octets : (ℕ → List ℕ) → Held → List ℕ
held_octets written (Stored octets) = octets
held_octets written (Written slot) = written slot

-- the octets that a name holds, or none
abbrev pub holds : Writing → List ℕ → Option (List ℕ)
holds desk name = option_map (held_octets desk.written) (desk.files name)

-- a count of faults rose, or stands at the greatest value of its type
abbrev pub Rose : ℕ → ℕ → Type 0
Rose before now = min (before + 1) (2 ^ 64 - 1) ≤ now

-- an opening call took the name and made one slot more
abbrev pub opened_side : Side → List ℕ → Side
opened_side side name = record side { asked = side.asked ++ name ∷ []; slots = side.slots + 1 }

-- opening calls took these names, and made one slot more for each
abbrev pub opened_each : Side → List (List ℕ) → Side
opened_each side names = record side { asked = side.asked ++ names; slots = side.slots + length names }

-- the same but for the count of faults, which rose
pub record Fails (old new : Side) : Type 0 where
  pub rose : Rose old.faults new.faults
  pub asked : new.asked ≡ old.asked
  pub slots : new.slots ≡ old.slots

-- an opening call that failed took the name, and made no slot
pub record FailsToOpen (old new : Side) (name : List ℕ) : Type 0 where
  pub rose : Rose old.faults new.faults
  pub asked : new.asked ≡ old.asked ++ name ∷ []
  pub slots : new.slots ≡ old.slots

-- every slot but one is as it was
abbrev pub SameBut : {A : Type 0} → ℕ → (ℕ → A) → (ℕ → A) → Type 0
SameBut slot old new = (k : ℕ) → k ≢ slot → new k ≡ old k

-- a new input slot; where the desk tells, it is over what the name holds
pub record OpensInput (tells : Bool) (old new : Reading) (held : Option (List ℕ)) (name : List ℕ) (slot : ℕ) : Type 0 where
  pub number : slot ≡ old.side.slots
  pub side : new.side ≡ opened_side old.side name
  pub other_left : SameBut slot old.left new.left
  pub other_ended : SameBut slot old.ended new.ended
  pub left : IsTrue tells → held ≡ Some (new.left slot)
  pub ended : new.ended slot ≡ false

-- what an opening call of an input answered
abbrev pub OpenIn : Bool → Reading → Option (List ℕ) → List ℕ → Result ℕ DeskFault → Reading → Type 0
OpenIn tells old held name (Ok slot) new = OpensInput tells old new held name slot
OpenIn tells old held name (Err Failed) new = FailsToOpen old.side new.side name × (new.left ≡ old.left) × (new.ended ≡ old.ended)
OpenIn tells old held name (Err NoMemory) new = new ≡ old

-- A read gave these octets of a slot. Where the desk tells they are the first that were left, and
-- none came only where none was left.
pub record Gives (tells : Bool) (old new : Reading) (slot : ℕ) (octets : List ℕ) : Type 0 where
  pub side : new.side ≡ old.side
  pub other_left : SameBut slot old.left new.left
  pub other_ended : SameBut slot old.ended new.ended
  pub left : IsTrue tells → old.left slot ≡ octets ++ new.left slot
  pub none : IsTrue tells → octets ≡ [] → old.left slot ≡ []
  pub ended : IsTrue tells → (IsTrue (new.ended slot) ↔ (octets ≡ []))

-- what a read into a buffer answered; `into` is the buffer afterwards
abbrev pub ReadInto : Bool → Reading → ℕ → List ℕ → Result ℕ DeskFault → Reading → Type 0
ReadInto tells old slot into (Ok count) new = (count ≤ length into) × Gives tells old new slot (take count into)
ReadInto tells old slot into (Err Failed) new = Fails old.side new.side × (new.left ≡ old.left) × (new.ended ≡ old.ended)
ReadInto tells old slot into (Err NoMemory) new = new ≡ old

-- how many octets a read gave
abbrev pub given : Result ℕ DeskFault → ℕ
given (Ok count) = count
given (Err _) = 0

-- where the desk tells, what stands in a buffer behind the octets that a read gave is as it was: after an error all of it
abbrev pub KeepsBehind : Bool → List ℕ → Result ℕ DeskFault → List ℕ → Type 0
KeepsBehind tells before result into = IsTrue tells → drop (given result) into ≡ drop (given result) before

-- a new output slot, empty, to which the name is tied
pub record OpensOutput (old new : Writing) (name : List ℕ) (slot : ℕ) : Type 0 where
  pub number : slot ≡ old.side.slots
  pub side : new.side ≡ opened_side old.side name
  pub other_written : SameBut slot old.written new.written
  pub written : new.written slot ≡ []
  pub other_files : (other : List ℕ) → other ≢ name → new.files other ≡ old.files other
  pub file : new.files name ≡ Some (Written slot)

-- what an opening call of an output answered
abbrev pub OpenOut : Bool → Writing → List ℕ → Result ℕ DeskFault → Writing → Type 0
OpenOut tells old name (Ok slot) new = (slot ≡ old.side.slots) × (new.side ≡ opened_side old.side name) × (IsTrue tells → OpensOutput old new name slot)
OpenOut tells old name (Err Failed) new = FailsToOpen old.side new.side name × (new.written ≡ old.written) × (new.files ≡ old.files)
OpenOut tells old name (Err NoMemory) new = new ≡ old

-- these octets were appended to what was written to a slot, and to nothing else
pub record Grows (tells : Bool) (old new : Writing) (slot : ℕ) (octets : List ℕ) : Type 0 where
  pub other_written : SameBut slot old.written new.written
  pub written : IsTrue tells → new.written slot ≡ old.written slot ++ octets
  pub files : new.files ≡ old.files

-- what a write of octets answered: from one of them to all were appended
abbrev pub WriteFrom : Bool → Writing → ℕ → List ℕ → Result ℕ DeskFault → Writing → Type 0
WriteFrom tells old slot from (Ok count) new = (1 ≤ count) × (count ≤ length from) × (new.side ≡ old.side) × Grows tells old new slot (take count from)
WriteFrom tells old slot from (Err Failed) new = Fails old.side new.side × (new.written ≡ old.written) × (new.files ≡ old.files)
WriteFrom tells old slot from (Err NoMemory) new = new ≡ old
