-- What `collect EXPORTS REPORT` promises.
use Rattle.std.specs.Prelude.{◌≡◌, ◌≢◌, ℕ, ◌<◌, ◌⊎◌, ⊤, Bool, IsTrue, IsSomeAnd, List, [], ◌∷◌, ◌++◌, Option, Some}
use Rattle.ioam_base.specs.Octets.{IsFront}
use Rattle.ioam_desk.specs.Asked.{AsksFront}
use Rattle.ioam_desk.specs.Desk.{Reading, Writing, Rose, holds}
use Rattle.ioam_desk.specs.Kept.{KeepsInputs, KeepsOutputs}
use Rattle.ioam_run_answer.specs.Record.{Record}
use Rattle.ioam_run_answer.specs.Reads.{Ending, Whole, Faulty, Reads, Splits}
use Rattle.ioam_report_groups.specs.GroupsText.{records_text}
use Rattle.ioam_desk_outputs.specs.Names.{name_at}
use Rattle.ioam_collect_laws.specs.Exported.{TellsRun}
use Rattle.ioam_collect_laws.specs.Paths.{Regroups}
use Rattle.ioam_collect_stream.specs.Gathering.{AreFew, IsLimit, Passes, AreWhole}
use Rattle.ioam_run_answer.specs.Desks.{Desks}
use Rattle.ioam_run_answer.specs.Failures.{AnswersFailures}
use Rattle.ioam_run_answer.specs.Outcomes.{IsDone, IsBehindAll, OpensNothing}
use Rattle.ioam_run_answer.specs.declared.outcome.Outcome.{Outcome}
use Rattle.ioam_run_answer.specs.declared.outcome.Outcome.TheVariants as outcome

-- ---- its files

-- the files that the words of the command name
pub record CollectNames : Type 0 where
  pub exports : List ℕ
  pub report : List ℕ

-- they stand behind the command's own name
abbrev pub collect_names : List (List ℕ) → CollectNames
collect_names words = record { exports = name_at words 1; report = name_at words 2 }

-- ---- what EXPORTS may be

-- the octets read as these records, and end so
abbrev pub EndsSo : Ending → List Record → List ℕ → Type 0
EndsSo ending records octets = Reads octets records ending

-- these are the first records of the octets
abbrev pub AreFirst : List Record → List ℕ → Type 0
AreFirst records octets = (rest : List ℕ) × Splits octets records rest

-- the octets are export records that end so, no more than may be
pub record IsExports (ending : Ending) (octets : List ℕ) : Type 0 where
  pub records : List Record
  pub reads : Reads octets records ending
  pub few : AreFew records

-- the octets are more export records than may be, by this limit
pub record IsLong (limit : ℕ) (octets : List ℕ) : Type 0 where
  pub records : List Record
  pub passes : Passes limit records octets
  pub few : AreFew records

-- ---- which answer is asked for, and why each comes

-- What the names and the files ask for, where nothing fails: the first of the refusals in their order whose
-- condition holds, or Done. What EXPORTS holds is spoken of where the desk tells.
module _ (tells : Bool) (content : Option (List ℕ)) (exports report : List ℕ) where
  -- the answer that the names and what EXPORTS holds ask for, where nothing fails
  abbrev pub Asked : Outcome → Type 0
  Asked (outcome.Names name) = (exports ≡ report) × (name ≡ report)
  Asked (outcome.Exports at fault) = (exports ≢ report) × (IsTrue tells → IsSomeAnd content (IsExports (Faulty at fault)))
  Asked (outcome.Records limit) = (exports ≢ report) × IsLimit limit × (IsTrue tells → IsSomeAnd content (IsLong limit))
  Asked outcome.Done = (exports ≢ report) × (IsTrue tells → IsSomeAnd content (IsExports Whole))
  Asked _ = ⊥

  -- the cause of each answer; want of memory alone has none
  module _ (old_in new_in : Reading) (old new : Writing) where
    -- the cause of an answer: a count of faults that rose, or that the answer is asked for; want of memory alone needs none
    abbrev pub HasCause : Outcome → Type 0
    HasCause outcome.ReadFault = Rose old_in.side.faults new_in.side.faults
    HasCause outcome.WriteFault = Rose old.side.faults new.side.faults
    HasCause outcome.NoMemory = ⊤
    HasCause answer = Asked answer

-- ---- what REPORT holds afterwards

-- the report is the text of some records, no more than may be, and of a run's records its groups are the paths of the run's
-- packets, and the whole paths where EXPORTS holds what the run wrote and was read to its end; `Are` says which records of
-- EXPORTS
pub record HoldsReport (Are : List Record → List ℕ → Type 0) (new : Writing) (report : List ℕ) (octets : List ℕ) : Type 0 where
  pub records : List Record
  pub are : Are records octets
  pub few : AreFew records
  pub held : holds new report ≡ Some (records_text records)
  pub regroups : Regroups records
  pub tells_run : TellsRun octets records

-- the report, where it was opened, is a front of the text of some first records of EXPORTS, no more than may be
pub record HoldsPart (old new : Writing) (report : List ℕ) (octets : List ℕ) : Type 0 where
  pub records : List Record
  pub first : AreFirst records octets
  pub few : AreFew records
  pub held : old.side.slots < new.side.slots → IsSomeAnd (holds new report) (λ part. IsFront part (records_text records))

-- What REPORT holds afterwards, where the desk tells: the text of all records, of those in front of a faulty one or
-- of one too many, or of those that are whole in what was handed out of EXPORTS; or nothing was opened for writing;
-- or it holds a front of its text.
module _ (content : Option (List ℕ)) (report : List ℕ) (old_in new_in : Reading) (old new : Writing) where
  -- what the report holds, by the answer: the text of all records, of those in front of the fault or limit, or of those that
  -- had been handed out whole; or a front of it, or nothing was opened
  abbrev pub Leaves : Outcome → Type 0
  Leaves outcome.Done = IsSomeAnd content (HoldsReport (EndsSo Whole) new report)
  Leaves (outcome.Exports at fault) = IsSomeAnd content (HoldsReport (EndsSo (Faulty at fault)) new report)
  Leaves (outcome.Records limit) = IsSomeAnd content (HoldsReport (Passes limit) new report)
  Leaves outcome.ReadFault = ((new_in.side.slots ≡ old_in.side.slots) × (new ≡ old))
      ⊎ ((old_in.side.slots < new_in.side.slots)
      × IsSomeAnd content (HoldsReport (AreWhole (new_in.left old_in.side.slots)) new report))
  Leaves outcome.WriteFault = IsSomeAnd content (HoldsPart old new report)
  Leaves outcome.NoMemory = (new ≡ old) ⊎ IsSomeAnd content (HoldsPart old new report)
  Leaves (outcome.Names name) = new ≡ old
  Leaves _ = ⊥

-- ---- the promise

module _ (desks : Desks) (files : CollectNames) where
  -- what EXPORTS holds
  abbrev pub exported : Option (List ℕ)
  exported = holds desks.old files.exports

  -- what `collect` promises of its answer
  pub record Keeps (answer : Outcome) : Type 0 where
    pub cause : HasCause desks.tells exported files.exports files.report desks.old_in desks.new_in desks.old desks.new answer
    pub leaves : IsTrue desks.tells → Leaves exported files.report desks.old_in desks.new_in desks.old desks.new answer
    -- what is asked for is answered, unless a call of the desk failed or no memory could be had
    pub exact : (asked : Outcome) → IsTrue desks.tells → Asked desks.tells exported files.exports files.report asked
        → (Rose desks.old_in.side.faults desks.new_in.side.faults → ⊥) → (Rose desks.old.side.faults desks.new.side.faults → ⊥)
        → (answer ≡ asked) ⊎ (answer ≡ outcome.NoMemory)
    -- the names that were opened, told or not
    pub asked_in : AsksFront desks.old_in.side.asked desks.new_in.side.asked (files.exports ∷ [])
    pub asked_out : AsksFront desks.old.side.asked desks.new.side.asked (files.report ∷ [])
    pub all_in : IsBehindAll ⊥ answer → desks.new_in.side.asked ≡ desks.old_in.side.asked ++ files.exports ∷ []
    pub all_out : IsBehindAll ⊥ answer → desks.new.side.asked ≡ desks.old.side.asked ++ files.report ∷ []
    -- nothing is opened where the names are equal, and no output before EXPORTS; where all is done it was read to its end
    pub unopened : OpensNothing answer → desks.new_in ≡ desks.old_in
    pub differed : (desks.new_in ≡ desks.old_in) ⊎ (files.exports ≢ files.report)
    pub no_output : desks.new_in.side.slots ≡ desks.old_in.side.slots → desks.new ≡ desks.old
    -- nothing of EXPORTS is read before REPORT is opened
    pub unread : IsTrue desks.tells → desks.new.side.slots ≡ desks.old.side.slots → desks.old_in.side.slots < desks.new_in.side.slots
        → exported ≡ Some (desks.new_in.left desks.old_in.side.slots)
    pub drained : IsDone answer → IsTrue desks.tells → IsTrue (desks.new_in.ended desks.old_in.side.slots)
    -- what failed is answered: where EXPORTS was asked for it was opened, but behind ReadFault; no call of it failed where the words
    -- and the file decided the answer, and none of REPORT unless the answer is WriteFault
    pub failures : AnswersFailures desks answer
    -- input slots that were there, and where the desk tells output slots that were there and names that weren't opened to be written, are as they were
    pub kept_in : KeepsInputs desks.old_in desks.new_in
    pub kept_out : IsTrue desks.tells → KeepsOutputs desks.old desks.new
