-- Files that are read as parts: of one the records, or the octets.
use Rattle.std.specs.Prelude.{◌≡◌, ◌≢◌, ℕ, ◌+◌, ◌<◌, ◌≤◌, ⊤, Bool, IsTrue, IsSomeAnd, List, [], ◌∷◌, ◌++◌, Option, Some, Result, Ok, Err}
use Rattle.ioam_desk.specs.Asked.{AsksFront, HaveSlots}
use Rattle.ioam_desk.specs.Desk as desk
use Rattle.ioam_desk.specs.Desk.{Rose, opened_side}
use Rattle.ioam_desk.specs.Kept.{KeepsInputs}
use Rattle.ioam_desk.specs.declared.fault.DeskFault.{DeskFault}
use Rattle.ioam_desk.specs.declared.fault.DeskFault.TheVariants.{Failed, NoMemory}
use Rattle.ioam_run_answer.specs.Record.{Record}
use Rattle.ioam_collect.specs.Collected as collected
use Rattle.ioam_collect.specs.Collected.{Collected}
use Rattle.ioam_part.specs.Faults.{HasFault}
use Rattle.ioam_part.specs.Part.{IsPart}
use Rattle.ioam_part.specs.declared.fault.PartFault.{PartFault}
use Rattle.ioam_part.specs.declared.reader.PartRefused.{PartRefused}
use Rattle.ioam_part.specs.declared.reader.PartRefused.TheVariants as refused
use Rattle.ioam_run_answer.specs.declared.outcome.Outcome.{Outcome}
use Rattle.ioam_run_answer.specs.declared.outcome.Outcome.TheVariants as outcome
use Rattle.ioam_run_part.specs.Records.{ReadsFew}
use Rattle.ioam_run_part.specs.declared.unread.Unread.{Unread}
use Rattle.ioam_run_part.specs.declared.unread.Unread.TheVariants as unread

-- the collector stands for the records of a part; where the desk tells, this is what the name holds
pub record IsHeld (tells : Bool) (content : Option (List ℕ)) (c : Collected) : Type 0 where
  pub octets : List ℕ
  pub records : List Record
  pub part : IsPart octets records
  pub stands : collected.Stands c records
  pub limit : c.limit ≡ 1048576
  pub is : IsTrue tells → content ≡ Some octets

-- what the name holds has this fault at this place
abbrev pub IsFaulty : Bool → Option (List ℕ) → ℕ → PartFault → Type 0
IsFaulty tells content at fault = IsTrue tells → IsSomeAnd content (λ octets. HasFault octets at fault)

-- the octets are a part; where the desk tells, they are what the name holds
pub record IsFlat (tells : Bool) (content : Option (List ℕ)) (kept : List ℕ) : Type 0 where
  pub records : List Record
  pub part : IsPart kept records
  pub is : IsTrue tells → content ≡ Some kept

-- the verdict on octets that were read
abbrev pub verdict_of : {A : Type 0} → Result A PartRefused → Result A Unread
verdict_of (Ok part) = Ok part
verdict_of (Err (refused.Fault at fault)) = Err (unread.Fault at fault)
verdict_of (Err refused.Full) = Err unread.NoMemory
verdict_of (Err refused.NoMemory) = Err unread.NoMemory

-- What was read of a name: a part to its end, and this holds of it; its first fault; an opening or a read that failed; or want
-- of memory.
module _ {A : Type 0} (Held : A → Type 0) (tells : Bool) (content : Option (List ℕ)) (name : List ℕ) (old new : desk.Reading) where
  abbrev pub ReadsFile : Result A Unread → Type 0
  ReadsFile (Ok part) = (new.side ≡ opened_side old.side name) × Held part × (IsTrue tells → IsTrue (new.ended old.side.slots))
  ReadsFile (Err (unread.Fault at fault)) = (new.side ≡ opened_side old.side name) × IsFaulty tells content at fault
  ReadsFile (Err unread.Failed) = Rose old.side.faults new.side.faults × (new.side.asked ≡ old.side.asked ++ name ∷ [])
  ReadsFile (Err unread.NoMemory) = ⊤

-- whatever was answered: the name that was asked for, what is as it was, and how much was read
pub record TriesFile (tells : Bool) (content : Option (List ℕ)) (name : List ℕ) (old new : desk.Reading) : Type 0 where
  pub asked : AsksFront old.side.asked new.side.asked (name ∷ [])
  pub grew : old.side.slots ≤ new.side.slots
  pub slots : new.side.slots ≤ old.side.slots + 1
  pub kept : KeepsInputs old new
  pub few : old.side.slots < new.side.slots → ReadsFew tells content old.side.slots new

-- what failed is answered: unless that is why the file wasn't read it was opened, where it was asked for, and no call of it failed
abbrev pub AnswersReads : {A : Type 0} → desk.Reading → desk.Reading → Result A Unread → Type 0
AnswersReads old new result = result ≢ Err unread.Failed → HaveSlots old.side new.side × (new.side.faults ≡ old.side.faults)

-- the answer for a file of this name that wasn't read
abbrev pub answer_of : List ℕ → Unread → Outcome
answer_of name (unread.Fault at fault) = outcome.Part name at fault
answer_of name unread.Failed = outcome.ReadFault
answer_of name unread.NoMemory = outcome.NoMemory

-- why nothing is read on
abbrev pub unread_by : DeskFault → Unread
unread_by Failed = unread.Failed
unread_by NoMemory = unread.NoMemory
