-- What `part EXPORTS PART` promises.
use Rattle.std.specs.Prelude.{◌≡◌, ◌≢◌, ℕ, ◌<◌, ◌⊎◌, ⊤, Bool, IsTrue, IsSomeAnd, List, [], ◌∷◌, ◌++◌, Option, Some}
use Rattle.ioam_desk.specs.Asked.{AsksFront}
use Rattle.ioam_desk.specs.Desk.{Reading, Writing, Rose, holds}
use Rattle.ioam_desk.specs.Kept.{KeepsInputs, KeepsOutputs}
use Rattle.ioam_run_answer.specs.Record.{Record}
use Rattle.ioam_run_answer.specs.Reads.{Whole, Faulty}
use Rattle.ioam_collect_stream.specs.Gathering.{AreFew, IsLimit, Passes, AreWhole}
use Rattle.ioam_run_answer.specs.Desks.{Desks}
use Rattle.ioam_run_answer.specs.Failures.{AnswersFailures}
use Rattle.ioam_run_answer.specs.Outcomes.{IsDone, IsBehindAll, OpensNothing}
use Rattle.ioam_run_answer.specs.declared.outcome.Outcome.{Outcome}
use Rattle.ioam_run_answer.specs.declared.outcome.Outcome.TheVariants as outcome
use Rattle.ioam_run_part.specs.Files.{PartNames}
use Rattle.ioam_run_part.specs.Records.{EndsSo, AreFirst, IsExports, IsLong, IsPartOfAll, IsFrontOfPart}

-- ---- which answer is asked for, and why each comes

-- What the names and the files ask for, where nothing fails: the first of the refusals in their order whose
-- condition holds, or Done. What EXPORTS holds is spoken of where the desk tells.
module _ (tells : Bool) (content : Option (List ℕ)) (exports part : List ℕ) where
  -- the answer that the names and what EXPORTS holds ask for, where nothing fails
  abbrev pub PartAsked : Outcome → Type 0
  PartAsked (outcome.Names name) = (exports ≡ part) × (name ≡ part)
  PartAsked (outcome.Exports at fault) = (exports ≢ part) × (IsTrue tells → IsSomeAnd content (IsExports (Faulty at fault)))
  PartAsked (outcome.Records limit) = (exports ≢ part) × IsLimit limit × (IsTrue tells → IsSomeAnd content (IsLong limit))
  PartAsked outcome.Done = (exports ≢ part) × (IsTrue tells → IsSomeAnd content (IsExports Whole))
  PartAsked _ = ⊥

  -- the cause of each answer; want of memory alone has none
  module _ (old_in new_in : Reading) (old new : Writing) where
    -- the cause of an answer: a count of faults that rose, or that the answer is asked for; want of memory alone needs none
    abbrev pub PartCause : Outcome → Type 0
    PartCause outcome.ReadFault = Rose old_in.side.faults new_in.side.faults
    PartCause outcome.WriteFault = Rose old.side.faults new.side.faults
    PartCause outcome.NoMemory = ⊤
    PartCause answer = PartAsked answer

-- ---- what PART holds afterwards

-- PART is the part of the groups of some records, no more than may be; `Are` says which records of EXPORTS
pub record HoldsPart (Are : List Record → List ℕ → Type 0) (new : Writing) (part : List ℕ) (octets : List ℕ) : Type 0 where
  pub records : List Record
  pub are : Are records octets
  pub few : AreFew records
  pub held : IsSomeAnd (holds new part) (IsPartOfAll records)

-- PART, where it was opened, is a front of the part of some first records of EXPORTS, no more than may be
pub record HoldsFront (old new : Writing) (part : List ℕ) (octets : List ℕ) : Type 0 where
  pub records : List Record
  pub first : AreFirst records octets
  pub few : AreFew records
  pub held : old.side.slots < new.side.slots → IsSomeAnd (holds new part) (IsFrontOfPart records)

-- What PART holds afterwards, where the desk tells: the part of all records, of those in front of a faulty one or
-- of one too many, or of those that are whole in what was handed out of EXPORTS; or nothing was opened for writing;
-- or it holds a front of a part.
module _ (content : Option (List ℕ)) (part : List ℕ) (old_in new_in : Reading) (old new : Writing) where
  -- what PART holds, by the answer: the part of all records, of those in front of the fault or limit, or of those that had
  -- been handed out whole; or a front of it, or nothing was opened
  abbrev pub PartLeaves : Outcome → Type 0
  PartLeaves outcome.Done = IsSomeAnd content (HoldsPart (EndsSo Whole) new part)
  PartLeaves (outcome.Exports at fault) = IsSomeAnd content (HoldsPart (EndsSo (Faulty at fault)) new part)
  PartLeaves (outcome.Records limit) = IsSomeAnd content (HoldsPart (Passes limit) new part)
  PartLeaves outcome.ReadFault = ((new_in.side.slots ≡ old_in.side.slots) × (new ≡ old))
      ⊎ ((old_in.side.slots < new_in.side.slots)
      × IsSomeAnd content (HoldsPart (AreWhole (new_in.left old_in.side.slots)) new part))
  PartLeaves outcome.WriteFault = IsSomeAnd content (HoldsFront old new part)
  PartLeaves outcome.NoMemory = (new ≡ old) ⊎ IsSomeAnd content (HoldsFront old new part)
  PartLeaves (outcome.Names name) = new ≡ old
  PartLeaves _ = ⊥

-- ---- the promise

module _ (desks : Desks) (files : PartNames) where
  -- what EXPORTS holds
  abbrev pub exported : Option (List ℕ)
  exported = holds desks.old files.exports

  -- what `part` promises of its answer
  pub record PartKeeps (answer : Outcome) : Type 0 where
    pub cause : PartCause desks.tells exported files.exports files.part desks.old_in desks.new_in desks.old desks.new answer
    pub leaves : IsTrue desks.tells → PartLeaves exported files.part desks.old_in desks.new_in desks.old desks.new answer
    -- what is asked for is answered, unless a call of the desk failed or no memory could be had
    pub exact : (asked : Outcome) → IsTrue desks.tells → PartAsked desks.tells exported files.exports files.part asked
        → (Rose desks.old_in.side.faults desks.new_in.side.faults → ⊥) → (Rose desks.old.side.faults desks.new.side.faults → ⊥)
        → (answer ≡ asked) ⊎ (answer ≡ outcome.NoMemory)
    -- the names that were opened, told or not
    pub asked_in : AsksFront desks.old_in.side.asked desks.new_in.side.asked (files.exports ∷ [])
    pub asked_out : AsksFront desks.old.side.asked desks.new.side.asked (files.part ∷ [])
    pub all_in : IsBehindAll ⊥ answer → desks.new_in.side.asked ≡ desks.old_in.side.asked ++ files.exports ∷ []
    pub all_out : IsBehindAll ⊥ answer → desks.new.side.asked ≡ desks.old.side.asked ++ files.part ∷ []
    -- nothing is opened where the names are equal, and no output before EXPORTS; where all is done it was read to its end
    pub unopened : OpensNothing answer → desks.new_in ≡ desks.old_in
    pub differed : (desks.new_in ≡ desks.old_in) ⊎ (files.exports ≢ files.part)
    pub no_output : desks.new_in.side.slots ≡ desks.old_in.side.slots → desks.new ≡ desks.old
    -- nothing of EXPORTS is read before PART is opened
    pub unread : IsTrue desks.tells → desks.new.side.slots ≡ desks.old.side.slots → desks.old_in.side.slots < desks.new_in.side.slots
        → exported ≡ Some (desks.new_in.left desks.old_in.side.slots)
    pub drained : IsDone answer → IsTrue desks.tells → IsTrue (desks.new_in.ended desks.old_in.side.slots)
    -- what failed is answered: where EXPORTS was asked for it was opened, but behind ReadFault; no call of it failed where the words
    -- and the file decided the answer, and none of PART unless the answer is WriteFault
    pub failures : AnswersFailures desks answer
    -- input slots that were there, and where the desk tells output slots that were there and names that weren't opened to be written, are as they were
    pub kept_in : KeepsInputs desks.old_in desks.new_in
    pub kept_out : IsTrue desks.tells → KeepsOutputs desks.old desks.new
