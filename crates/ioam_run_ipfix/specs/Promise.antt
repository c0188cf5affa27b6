-- What `ipfix EXPORTS OUT` and `records IN OUT` promise.
use Rattle.std.specs.Prelude.{◌≡◌, ◌≢◌, ℕ, ◌<◌, ◌⊎◌, ⊤, Bool, IsTrue, IsSomeAnd, List, [], ◌∷◌, ◌++◌, Option, Some}
use Rattle.ioam_desk.specs.Asked.{AsksFront}
use Rattle.ioam_desk.specs.Desk.{Reading, Writing, Rose, holds}
use Rattle.ioam_desk.specs.Kept.{KeepsInputs, KeepsOutputs}
use Rattle.ioam_desk_outputs.specs.Names.{name_at}
use Rattle.ioam_dex.specs.Record.{Record}
use Rattle.ioam_dex.specs.Reads as dex
use Rattle.ioam_ipfix.specs.Reads as ipfix
use Rattle.ioam_ipfix.specs.Written.{runs_of}
use Rattle.ioam_run_answer.specs.Desks.{Desks}
use Rattle.ioam_run_answer.specs.Failures.{AnswersFailures}
use Rattle.ioam_run_answer.specs.Outcomes.{IsDone, IsBehindAll, OpensNothing}
use Rattle.ioam_run_answer.specs.declared.outcome.Outcome.{Outcome}
use Rattle.ioam_run_answer.specs.declared.outcome.Outcome.TheVariants as outcome
use Rattle.ioam_run_ipfix.specs.Exports as exports
use Rattle.ioam_run_ipfix.specs.Messages as messages
use Rattle.ioam_run_ipfix.specs.Texts.{AreCut, AreMessages, AreRecords, HoldsText, HoldsFront}

-- ---- the files

-- the files that the words of `ipfix` name
pub record IpfixNames : Type 0 where
  pub exports : List ℕ
  pub out : List ℕ

-- the files that the words of `records` name
pub record RecordsNames : Type 0 where
  pub input : List ℕ
  pub out : List ℕ

-- they stand behind the command's own name
abbrev pub ipfix_names : List (List ℕ) → IpfixNames
ipfix_names words = record { exports = name_at words 1; out = name_at words 2 }

-- likewise the files of `records`
abbrev pub records_names : List (List ℕ) → RecordsNames
records_names words = record { input = name_at words 1; out = name_at words 2 }

-- ---- which answer is asked for, and why each comes

-- What the names and the files ask for, where nothing fails: the first of the refusals in their order whose
-- condition holds, or Done. What the input holds is spoken of where the desk tells.
module _ (tells : Bool) (content : Option (List ℕ)) (input out : List ℕ) where
  -- the answer of `ipfix` that the names and what EXPORTS holds ask for, where nothing fails
  abbrev pub IpfixAsked : Outcome → Type 0
  IpfixAsked (outcome.Names name) = (input ≡ out) × (name ≡ out)
  IpfixAsked (outcome.Exports at fault) = (input ≢ out) × (IsTrue tells → IsSomeAnd content (exports.IsExports (dex.Faulty at fault)))
  IpfixAsked (outcome.Records limit) = (input ≢ out) × (limit ≡ 67108864) × (IsTrue tells → IsSomeAnd content exports.IsLong)
  IpfixAsked outcome.Done = (input ≢ out) × (IsTrue tells → IsSomeAnd content (exports.IsExports dex.Whole))
  IpfixAsked _ = ⊥

  -- the answer of `records` that the names and what IN holds ask for, where nothing fails
  abbrev pub RecordsAsked : Outcome → Type 0
  RecordsAsked (outcome.Names name) = (input ≡ out) × (name ≡ out)
  RecordsAsked (outcome.Ipfix at fault) = (input ≢ out) × (IsTrue tells → IsSomeAnd content (messages.IsMessages (ipfix.Faulty at fault)))
  RecordsAsked (outcome.Packets limit) = (input ≢ out) × (limit ≡ 67108865) × (IsTrue tells → IsSomeAnd content messages.IsCrowded)
  RecordsAsked (outcome.Records limit) = (input ≢ out) × (limit ≡ 67108864) × (IsTrue tells → IsSomeAnd content messages.IsFull)
  RecordsAsked outcome.Done = (input ≢ out) × (IsTrue tells → IsSomeAnd content (messages.IsMessages ipfix.Whole))
  RecordsAsked _ = ⊥

  -- the cause of each answer; want of memory alone has none
  module _ (old_in new_in : Reading) (old new : Writing) where
    -- the cause of an answer of `ipfix`: a count of faults that rose, or that the answer is asked for
    abbrev pub IpfixCause : Outcome → Type 0
    IpfixCause outcome.ReadFault = Rose old_in.side.faults new_in.side.faults
    IpfixCause outcome.WriteFault = Rose old.side.faults new.side.faults
    IpfixCause outcome.NoMemory = ⊤
    IpfixCause answer = IpfixAsked answer

    -- the cause of an answer of `records`: a count of faults that rose, or that the answer is asked for
    abbrev pub RecordsCause : Outcome → Type 0
    RecordsCause outcome.ReadFault = Rose old_in.side.faults new_in.side.faults
    RecordsCause outcome.WriteFault = Rose old.side.faults new.side.faults
    RecordsCause outcome.NoMemory = ⊤
    RecordsCause answer = RecordsAsked answer

-- ---- what the commands leave in OUT

-- What OUT holds afterwards, where the desk tells: the messages of all records, of those in front of a faulty one or
-- of one too many, or of those that are whole in what was handed out of EXPORTS; or nothing was opened for writing;
-- or it holds a front of such messages.
module _ (content : Option (List ℕ)) (out : List ℕ) (old_in new_in : Reading) (old new : Writing) where
  -- what OUT of `ipfix` holds, by the answer
  abbrev pub IpfixLeaves : Outcome → Type 0
  IpfixLeaves outcome.Done = IsSomeAnd content (HoldsText AreMessages (exports.EndsSo dex.Whole) new out)
  IpfixLeaves (outcome.Exports at fault) = IsSomeAnd content (HoldsText AreMessages (exports.EndsSo (dex.Faulty at fault)) new out)
  IpfixLeaves (outcome.Records limit) = IsSomeAnd content (HoldsText AreMessages exports.ArePassed new out)
  IpfixLeaves outcome.ReadFault = ((new_in.side.slots ≡ old_in.side.slots) × (new ≡ old))
      ⊎ ((old_in.side.slots < new_in.side.slots)
      × IsSomeAnd content (HoldsText AreMessages (exports.AreWhole (new_in.left old_in.side.slots)) new out))
  IpfixLeaves outcome.WriteFault = IsSomeAnd content (HoldsFront AreMessages exports.AreFirst old new out)
  IpfixLeaves outcome.NoMemory = (new ≡ old) ⊎ IsSomeAnd content (HoldsFront AreMessages exports.AreFirst old new out)
  IpfixLeaves (outcome.Names name) = new ≡ old
  IpfixLeaves _ = ⊥

-- What OUT holds afterwards, where the desk tells: the records of all messages, of those in front of a faulty one or
-- of one too many, as many as may be, or those of the messages that are whole in what was handed out of IN; or nothing
-- was opened for writing; or it holds a front of such records.
module _ (content : Option (List ℕ)) (out : List ℕ) (old_in new_in : Reading) (old new : Writing) where
  -- what OUT of `records` holds, by the answer
  abbrev pub RecordsLeaves : Outcome → Type 0
  RecordsLeaves outcome.Done = IsSomeAnd content (HoldsText AreRecords (messages.AreOf ipfix.Whole) new out)
  RecordsLeaves (outcome.Ipfix at fault) = IsSomeAnd content (HoldsText AreRecords (messages.AreOf (ipfix.Faulty at fault)) new out)
  RecordsLeaves (outcome.Packets limit) = IsSomeAnd content (HoldsText AreRecords messages.AreBefore new out)
  RecordsLeaves (outcome.Records limit) = IsSomeAnd content (HoldsText AreRecords messages.AreAsMany new out)
  RecordsLeaves outcome.ReadFault = ((new_in.side.slots ≡ old_in.side.slots) × (new ≡ old))
      ⊎ ((old_in.side.slots < new_in.side.slots)
      × IsSomeAnd content (HoldsText AreRecords (messages.AreWhole (new_in.left old_in.side.slots)) new out))
  RecordsLeaves outcome.WriteFault = IsSomeAnd content (HoldsFront AreRecords messages.AreFirst old new out)
  RecordsLeaves outcome.NoMemory = (new ≡ old) ⊎ IsSomeAnd content (HoldsFront AreRecords messages.AreFirst old new out)
  RecordsLeaves (outcome.Names name) = new ≡ old
  RecordsLeaves _ = ⊥

-- ---- that `records` brings back what `ipfix` was given

-- The messages read as exactly the records of these octets, run by run behind one message without a record, to their end
-- and in no other way. `records` over them, wherever it reads and writes them, is asked for Done and for nothing else,
-- and leaves these octets.
pub record BringsBack (written octets : List ℕ) : Type 0 where
  pub records : List Record
  pub exported : dex.Reads octets records dex.Whole
  pub runs : List (ℕ × List Record)
  pub cut : AreCut records runs
  pub reads : ipfix.Reads written ([] ∷ runs_of runs) ipfix.Whole
  pub only : ipfix.ReadsOnly written ([] ∷ runs_of runs) ipfix.Whole
  pub asked : (tells : Bool) (input out : List ℕ) → input ≢ out → RecordsAsked tells (Some written) input out outcome.Done
  pub asked_only : (tells : Bool) (input out : List ℕ) (answer : Outcome) → IsTrue tells → input ≢ out
      → RecordsAsked tells (Some written) input out answer → answer ≡ outcome.Done
  pub back : (out : List ℕ) (old_in new_in : Reading) (old new : Writing)
      → RecordsLeaves (Some written) out old_in new_in old new outcome.Done → holds new out ≡ Some octets

-- ---- the promises

module _ (desks : Desks) (files : IpfixNames) where
  -- what EXPORTS holds
  abbrev pub exported : Option (List ℕ)
  exported = holds desks.old files.exports

  -- what `ipfix` promises of its answer
  pub record IpfixKeeps (answer : Outcome) : Type 0 where
    pub cause : IpfixCause desks.tells exported files.exports files.out desks.old_in desks.new_in desks.old desks.new answer
    pub leaves : IsTrue desks.tells → IpfixLeaves exported files.out desks.old_in desks.new_in desks.old desks.new answer
    -- what is asked for is answered, unless a call of the desk failed or no memory could be had
    pub exact : (asked : Outcome) → IsTrue desks.tells → IpfixAsked desks.tells exported files.exports files.out asked
        → (Rose desks.old_in.side.faults desks.new_in.side.faults → ⊥) → (Rose desks.old.side.faults desks.new.side.faults → ⊥)
        → (answer ≡ asked) ⊎ (answer ≡ outcome.NoMemory)
    -- where all is done `records` brings EXPORTS back out of OUT, octet for octet
    pub brings_back : IsDone answer → IsTrue desks.tells
        → IsSomeAnd exported (λ octets. IsSomeAnd (holds desks.new files.out) (λ written. BringsBack written octets))
    -- the names that were opened, told or not
    pub asked_in : AsksFront desks.old_in.side.asked desks.new_in.side.asked (files.exports ∷ [])
    pub asked_out : AsksFront desks.old.side.asked desks.new.side.asked (files.out ∷ [])
    pub all_in : IsBehindAll ⊥ answer → desks.new_in.side.asked ≡ desks.old_in.side.asked ++ files.exports ∷ []
    pub all_out : IsBehindAll ⊥ answer → desks.new.side.asked ≡ desks.old.side.asked ++ files.out ∷ []
    -- nothing is opened where the names are equal, and no output before EXPORTS; where all is done it was read to its end
    pub unopened : OpensNothing answer → desks.new_in ≡ desks.old_in
    pub differed : (desks.new_in ≡ desks.old_in) ⊎ (files.exports ≢ files.out)
    pub no_output : desks.new_in.side.slots ≡ desks.old_in.side.slots → desks.new ≡ desks.old
    -- nothing of EXPORTS is read before OUT is opened
    pub unread : IsTrue desks.tells → desks.new.side.slots ≡ desks.old.side.slots → desks.old_in.side.slots < desks.new_in.side.slots
        → exported ≡ Some (desks.new_in.left desks.old_in.side.slots)
    pub drained : IsDone answer → IsTrue desks.tells → IsTrue (desks.new_in.ended desks.old_in.side.slots)
    -- what failed is answered, told or not: where the input was asked for it was opened, but behind ReadFault; no call of it failed
    -- where the words and the files decided the answer, and none of an output where it is any but WriteFault
    pub failures : AnswersFailures desks answer
    -- input slots that were there, and where the desk tells output slots that were there and names that weren't opened to be written, are as they were
    pub kept_in : KeepsInputs desks.old_in desks.new_in
    pub kept_out : IsTrue desks.tells → KeepsOutputs desks.old desks.new

module _ (desks : Desks) (files : RecordsNames) where
  -- what IN holds
  abbrev pub read : Option (List ℕ)
  read = holds desks.old files.input

  -- what `records` promises of its answer
  pub record RecordsKeeps (answer : Outcome) : Type 0 where
    pub cause : RecordsCause desks.tells read files.input files.out desks.old_in desks.new_in desks.old desks.new answer
    pub leaves : IsTrue desks.tells → RecordsLeaves read files.out desks.old_in desks.new_in desks.old desks.new answer
    -- what is asked for is answered, unless a call of the desk failed or no memory could be had
    pub exact : (asked : Outcome) → IsTrue desks.tells → RecordsAsked desks.tells read files.input files.out asked
        → (Rose desks.old_in.side.faults desks.new_in.side.faults → ⊥) → (Rose desks.old.side.faults desks.new.side.faults → ⊥)
        → (answer ≡ asked) ⊎ (answer ≡ outcome.NoMemory)
    -- the names that were opened, told or not
    pub asked_in : AsksFront desks.old_in.side.asked desks.new_in.side.asked (files.input ∷ [])
    pub asked_out : AsksFront desks.old.side.asked desks.new.side.asked (files.out ∷ [])
    pub all_in : IsBehindAll ⊥ answer → desks.new_in.side.asked ≡ desks.old_in.side.asked ++ files.input ∷ []
    pub all_out : IsBehindAll ⊥ answer → desks.new.side.asked ≡ desks.old.side.asked ++ files.out ∷ []
    -- nothing is opened where the names are equal, and no output before IN; where all is done it was read to its end
    pub unopened : OpensNothing answer → desks.new_in ≡ desks.old_in
    pub differed : (desks.new_in ≡ desks.old_in) ⊎ (files.input ≢ files.out)
    pub no_output : desks.new_in.side.slots ≡ desks.old_in.side.slots → desks.new ≡ desks.old
    -- nothing of IN is read before OUT is opened
    pub unread : IsTrue desks.tells → desks.new.side.slots ≡ desks.old.side.slots → desks.old_in.side.slots < desks.new_in.side.slots
        → read ≡ Some (desks.new_in.left desks.old_in.side.slots)
    pub drained : IsDone answer → IsTrue desks.tells → IsTrue (desks.new_in.ended desks.old_in.side.slots)
    -- what failed is answered, told or not: where the input was asked for it was opened, but behind ReadFault; no call of it failed
    -- where the words and the files decided the answer, and none of an output where it is any but WriteFault
    pub failures : AnswersFailures desks answer
    -- input slots that were there, and where the desk tells output slots that were there and names that weren't opened to be written, are as they were
    pub kept_in : KeepsInputs desks.old_in desks.new_in
    pub kept_out : IsTrue desks.tells → KeepsOutputs desks.old desks.new
