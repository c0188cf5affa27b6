-- What `parts PART REPORT` promises.
use Rattle.std.specs.Prelude.{◌≡◌, ◌≢◌, ℕ, ◌<◌, ◌⊎◌, ⊤, Bool, IsTrue, IsSomeAnd, List, [], ◌∷◌, ◌++◌, Option, Some}
use Rattle.ioam_base.specs.Octets.{IsFront}
use Rattle.ioam_desk.specs.Asked.{AsksFront}
use Rattle.ioam_desk.specs.Desk.{Reading, Writing, Rose, holds}
use Rattle.ioam_desk.specs.Kept.{KeepsInputs, KeepsOutputs}
use Rattle.ioam_run_answer.specs.Record.{Record}
use Rattle.ioam_part.specs.Faults.{HasFault}
use Rattle.ioam_part.specs.Part.{IsPart}
use Rattle.ioam_part.specs.declared.fault.PartFault.{PartFault}
use Rattle.ioam_run_answer.specs.Desks.{Desks}
use Rattle.ioam_run_answer.specs.Failures.{AnswersFailures}
use Rattle.ioam_run_answer.specs.Outcomes.{IsDone, OpensNothing}
use Rattle.ioam_run_answer.specs.declared.outcome.Outcome.{Outcome}
use Rattle.ioam_run_answer.specs.declared.outcome.Outcome.TheVariants as outcome
use Rattle.ioam_run_part.specs.Files.{PartsNames}
use Rattle.ioam_run_part.specs.Records.{IsAPart, ReadsFew}
use Rattle.ioam_run_part.specs.KeptText.{part_lines}
use Rattle.ioam_run_part.specs.MergePromise.{OpensNoPart}

-- ---- which answer is asked for, and why each comes

-- What the names and the files ask for, where nothing fails: the first of the refusals in their order whose
-- condition holds, or Done. What PART holds is spoken of where the desk tells.
module _ (tells : Bool) (content : Option (List ℕ)) (part report : List ℕ) where
  -- the answer that the names and what PART holds ask for, where nothing fails
  abbrev pub PartsAsked : Outcome → Type 0
  PartsAsked (outcome.Names name) = (part ≡ report) × (name ≡ report)
  PartsAsked (outcome.Part name at fault) = (part ≢ report) × (name ≡ part) × (IsTrue tells → IsSomeAnd content (λ octets. HasFault octets at fault))
  PartsAsked outcome.Done = (part ≢ report) × (IsTrue tells → IsSomeAnd content IsAPart)
  PartsAsked _ = ⊥

  -- the cause of each answer; want of memory alone has none
  module _ (old_in new_in : Reading) (old new : Writing) where
    -- the cause of an answer: a count of faults that rose, or that the answer is asked for; want of memory alone needs none
    abbrev pub PartsCause : Outcome → Type 0
    PartsCause outcome.ReadFault = Rose old_in.side.faults new_in.side.faults
    PartsCause outcome.WriteFault = Rose old.side.faults new.side.faults
    PartsCause outcome.NoMemory = ⊤
    PartsCause answer = PartsAsked answer

-- ---- what REPORT holds afterwards

-- PART is a part, and the report is the text of its records
pub record HoldsLines (new : Writing) (report : List ℕ) (octets : List ℕ) : Type 0 where
  pub records : List Record
  pub part : IsPart octets records
  pub held : holds new report ≡ Some (part_lines records)

-- PART is a part, and the report, where it was opened, is a front of the text of its records
pub record HoldsLinesFront (old new : Writing) (report : List ℕ) (octets : List ℕ) : Type 0 where
  pub records : List Record
  pub part : IsPart octets records
  pub held : old.side.slots < new.side.slots → IsSomeAnd (holds new report) (λ front. IsFront front (part_lines records))

-- What REPORT holds afterwards, where the desk tells: the text of the records of PART, or a front of it; or nothing was opened for writing.
module _ (content : Option (List ℕ)) (report : List ℕ) (old new : Writing) where
  -- what REPORT holds, by the answer: the text of the part's records, or a front of it; and it wasn't opened where PART is
  -- refused or couldn't be read
  abbrev pub PartsLeaves : Outcome → Type 0
  PartsLeaves outcome.Done = IsSomeAnd content (HoldsLines new report)
  PartsLeaves outcome.WriteFault = IsSomeAnd content (HoldsLinesFront old new report)
  PartsLeaves outcome.NoMemory = (new ≡ old) ⊎ IsSomeAnd content (HoldsLinesFront old new report)
  PartsLeaves (outcome.Names name) = new ≡ old
  PartsLeaves (outcome.Part name at fault) = new ≡ old
  PartsLeaves outcome.ReadFault = new ≡ old
  PartsLeaves _ = ⊥

-- ---- the promise

module _ (desks : Desks) (files : PartsNames) where
  -- what PART holds
  abbrev pub part_held : Option (List ℕ)
  part_held = holds desks.old files.part

  -- what `parts` promises of its answer
  pub record PartsKeeps (answer : Outcome) : Type 0 where
    pub cause : PartsCause desks.tells part_held files.part files.report desks.old_in desks.new_in desks.old desks.new answer
    pub leaves : IsTrue desks.tells → PartsLeaves part_held files.report desks.old desks.new answer
    -- what is asked for is answered, unless a call of the desk failed or no memory could be had
    pub exact : (asked : Outcome) → IsTrue desks.tells → PartsAsked desks.tells part_held files.part files.report asked
        → (Rose desks.old_in.side.faults desks.new_in.side.faults → ⊥) → (Rose desks.old.side.faults desks.new.side.faults → ⊥)
        → (answer ≡ asked) ⊎ (answer ≡ outcome.NoMemory)
    -- the names that were opened, told or not; that REPORT is opened only where PART is a part is said where the desk tells (`leaves`)
    pub asked_in : AsksFront desks.old_in.side.asked desks.new_in.side.asked (files.part ∷ [])
    pub asked_out : AsksFront desks.old.side.asked desks.new.side.asked (files.report ∷ [])
    pub all_in : IsDone answer → desks.new_in.side.asked ≡ desks.old_in.side.asked ++ files.part ∷ []
    pub all_out : IsDone answer → desks.new.side.asked ≡ desks.old.side.asked ++ files.report ∷ []
    -- where it is answered that PART is none it was opened, told or not
    pub opened : (at : ℕ) (fault : PartFault) → answer ≡ outcome.Part files.part at fault → desks.new_in.side.asked ≡ desks.old_in.side.asked ++ files.part ∷ []
    -- nothing is opened where the names are equal, and no output before PART was opened, nor where it is none; where all is done it
    -- was read to its end, where the desk tells
    pub unopened : OpensNothing answer → desks.new_in ≡ desks.old_in
    pub differed : (desks.new_in ≡ desks.old_in) ⊎ (files.part ≢ files.report)
    pub no_output : desks.new_in.side.slots ≡ desks.old_in.side.slots → desks.new ≡ desks.old
    pub no_report : OpensNoPart answer → desks.new ≡ desks.old
    pub drained : IsDone answer → IsTrue desks.tells → IsTrue (desks.new_in.ended desks.old_in.side.slots)
    -- at most the first 300,000,000 octets of PART are read
    pub few : desks.old_in.side.slots < desks.new_in.side.slots → ReadsFew desks.tells part_held desks.old_in.side.slots desks.new_in
    -- what failed is answered: where PART was asked for it was opened, but behind ReadFault; no call of it failed where the words and
    -- the file decided the answer, and none of REPORT unless the answer is WriteFault
    pub failures : AnswersFailures desks answer
    -- a failed opening or read of PART is answered as such, and as nothing else
    pub read_failed : answer ≢ outcome.ReadFault → desks.new_in.side.faults ≡ desks.old_in.side.faults
    -- input slots that were there, and where the desk tells output slots that were there and names that weren't opened to be written, are as they were
    pub kept_in : KeepsInputs desks.old_in desks.new_in
    pub kept_out : IsTrue desks.tells → KeepsOutputs desks.old desks.new
