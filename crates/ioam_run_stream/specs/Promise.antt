-- What a command over one capture promises: `filter`, `paths`, `show` and `save`. `Texts taken texts` says which texts its
-- outputs have for these records of IN; each command says its own.
use Rattle.std.specs.Prelude.{◌≡◌, ℕ, ◌+◌, ◌<◌, ◌≤◌, ◌⊎◌, ⊤, IsTrue, IsSomeAnd, List, [], ◌∷◌, ◌++◌, length, drop, Some, None, false}
use Rattle.ioam_desk.specs.Asked.{AsksFront}
use Rattle.ioam_desk.specs.Desk.{Reading, Writing, Rose, holds}
use Rattle.ioam_desk.specs.Kept.{KeepsInputs, KeepsOutputs}
use Rattle.ioam_desk_outputs.specs.Held.{HoldTexts, HoldFronts}
use Rattle.ioam_desk_outputs.specs.Names.{name_at, AreApart, IsFirstRepeat}
use Rattle.ioam_pcap.specs.Ending.{Ending, Whole, Faulty}
use Rattle.ioam_pcap.specs.Entries.{Taken}
use Rattle.ioam_capture.specs.Reads.{Reads}
use Rattle.ioam_capture.specs.Streams.{ShowsSo}
use Rattle.ioam_run_answer.specs.Desks.{Desks}
use Rattle.ioam_run_answer.specs.Failures.{AnswersFailures}
use Rattle.ioam_run_answer.specs.Outcomes.{IsDone, IsBehindAll, OpensNothing}
use Rattle.ioam_run_answer.specs.declared.outcome.Outcome.{Outcome}
use Rattle.ioam_run_answer.specs.declared.outcome.Outcome.TheVariants as outcome

-- IN, and the outputs in their order
pub record CaptureNames : Type 0 where
  pub input : List ℕ
  pub outputs : List (List ℕ)

-- they stand behind the command's own name
abbrev pub capture_names : List (List ℕ) → CaptureNames
capture_names words = record { input = name_at words 1; outputs = drop 2 words }

-- all, in the order in which equal ones are looked for
abbrev pub all_names : CaptureNames → List (List ℕ)
all_names files = files.input ∷ files.outputs

-- the most records of IN that are taken
abbrev pub most_packets : ℕ
most_packets = 16777216

-- the octets are a capture file that ends so, of no more records than this limit
pub record IsInput (most : ℕ) (ending : Ending) (octets : List ℕ) : Type 0 where
  pub taken : List Taken
  pub reads : Reads octets taken ending
  pub few : length taken ≤ most

-- the octets are a capture file of more records
pub record IsLong (most : ℕ) (octets : List ℕ) : Type 0 where
  pub taken : List Taken
  pub ending : Ending
  pub reads : Reads octets taken ending
  pub many : most < length taken

-- ---- which answer is asked for, and why each comes

module _ (desks : Desks) (files : CaptureNames) where
  -- IN is so, which is spoken of where the desk tells
  abbrev pub InputIs : (List ℕ → Type 0) → Type 0
  InputIs IsSo = IsTrue desks.tells → IsSomeAnd (holds desks.old files.input) IsSo

  -- where nothing fails: the first of the refusals in their order whose condition holds, or Done
  abbrev pub Asked : Outcome → Type 0
  Asked (outcome.Names name) = (at : ℕ) × IsFirstRepeat (all_names files) at × (name ≡ name_at (all_names files) at)
  Asked (outcome.Packets limit) = AreApart (all_names files) × (limit ≡ most_packets) × InputIs (IsLong most_packets)
  Asked (outcome.Capture name at fault) = AreApart (all_names files) × (name ≡ files.input) × InputIs (IsInput most_packets (Faulty at fault))
  Asked outcome.Done = AreApart (all_names files) × InputIs (IsInput most_packets Whole)
  Asked _ = ⊥

  -- the cause of each answer; want of memory alone has none
  abbrev pub HasCause : Outcome → Type 0
  HasCause outcome.ReadFault = Rose desks.old_in.side.faults desks.new_in.side.faults
  HasCause outcome.WriteFault = Rose desks.old.side.faults desks.new.side.faults
  HasCause outcome.NoMemory = ⊤
  HasCause answer = Asked answer

-- the octets read as these records, and end so
abbrev pub EndsSo : Ending → List Taken → List ℕ → Type 0
EndsSo ending taken octets = Reads octets taken ending

-- these are the first records of the octets, and perhaps others come behind them
pub record AreFirst (taken : List Taken) (octets : List ℕ) : Type 0 where
  pub rest : List Taken
  pub ending : Ending
  pub reads : Reads octets (taken ++ rest) ending

-- these are as many of the first records of the octets as this limit, and more come behind them
pub record ArePassed (most : ℕ) (taken : List Taken) (octets : List ℕ) : Type 0 where
  pub first : AreFirst taken octets
  pub all : length taken ≡ most
  pub more : 0 < length first.rest

-- these are the records that are whole in the octets but for those that are left, and what is due behind them isn't
pub record AreWhole (left : List ℕ) (taken : List Taken) (octets : List ℕ) : Type 0 where
  pub handed : List ℕ
  pub parts : octets ≡ handed ++ left
  pub shows : ShowsSo handed false taken None

-- ---- what the files hold afterwards, where the desk tells

module _ (most : ℕ) (Texts : List Taken → List (List ℕ) → Type 0) (outputs : List (List ℕ)) where
  -- the outputs hold the texts of some records, no more than may be; `Are` says which records of IN
  pub record HoldsAll (Are : List Taken → List ℕ → Type 0) (new : Writing) (octets : List ℕ) : Type 0 where
    pub taken : List Taken
    pub texts : List (List ℕ)
    pub are : Are taken octets
    pub few : length taken ≤ most
    pub texts_are : Texts taken texts
    pub held : HoldTexts new outputs texts

  -- each output that was opened holds a front of its text of some first records of IN, no more than may be
  pub record HoldsFronts (old new : Writing) (octets : List ℕ) : Type 0 where
    pub taken : List Taken
    pub texts : List (List ℕ)
    pub are : AreFirst taken octets
    pub few : length taken ≤ most
    pub texts_are : Texts taken texts
    pub held : HoldFronts old new 0 outputs texts

  module _ (input : List ℕ) (old_in new_in : Reading) (old new : Writing) where
    -- what the outputs hold, by the answer: the texts of all records of IN, of those in front of its fault or limit, or of
    -- those that had been handed out whole; or fronts of them, or nothing was opened
    abbrev pub Leaves : Outcome → Type 0
    Leaves outcome.Done = IsSomeAnd (holds old input) (HoldsAll (EndsSo Whole) new)
    Leaves (outcome.Capture name at fault) = IsSomeAnd (holds old input) (HoldsAll (EndsSo (Faulty at fault)) new)
    Leaves (outcome.Packets limit) = IsSomeAnd (holds old input) (HoldsAll (ArePassed most) new)
    Leaves outcome.ReadFault = ((new_in.side.slots ≡ old_in.side.slots) × (new ≡ old))
        ⊎ ((old_in.side.slots < new_in.side.slots) × IsSomeAnd (holds old input) (HoldsAll (AreWhole (new_in.left old_in.side.slots)) new))
    Leaves outcome.WriteFault = IsSomeAnd (holds old input) (HoldsFronts old new)
    Leaves outcome.NoMemory = (new ≡ old) ⊎ IsSomeAnd (holds old input) (HoldsFronts old new)
    Leaves (outcome.Names name) = new ≡ old
    Leaves _ = ⊥

module _ (Texts : List Taken → List (List ℕ) → Type 0) (desks : Desks) (files : CaptureNames) where
  -- what each of these commands promises of its answer
  pub record Keeps (answer : Outcome) : Type 0 where
    pub cause : HasCause desks files answer
    pub leaves : IsTrue desks.tells → Leaves most_packets Texts files.outputs files.input desks.old_in desks.new_in desks.old desks.new answer
    -- what is asked for is answered, unless a call of the desk failed or no memory could be had
    pub exact : (asked : Outcome) → IsTrue desks.tells → Asked desks files asked → (Rose desks.old_in.side.faults desks.new_in.side.faults → ⊥)
        → (Rose desks.old.side.faults desks.new.side.faults → ⊥) → (answer ≡ asked) ⊎ (answer ≡ outcome.NoMemory)
    -- the names that were opened, told or not
    pub asked_in : AsksFront desks.old_in.side.asked desks.new_in.side.asked (files.input ∷ [])
    pub asked_out : AsksFront desks.old.side.asked desks.new.side.asked files.outputs
    pub all_in : IsBehindAll ⊥ answer → desks.new_in.side.asked ≡ desks.old_in.side.asked ++ files.input ∷ []
    pub all_out : IsBehindAll ⊥ answer → desks.new.side.asked ≡ desks.old.side.asked ++ files.outputs
    -- IN is opened only where the names differ, and no output before IN; where all is done it was read to its end
    pub unopened : OpensNothing answer → desks.new_in ≡ desks.old_in
    pub differed : (desks.new_in ≡ desks.old_in) ⊎ AreApart (all_names files)
    pub no_output : desks.new_in.side.slots ≡ desks.old_in.side.slots → desks.new ≡ desks.old
    -- nothing of IN is read before all outputs are opened
    pub unread : IsTrue desks.tells → desks.new.side.slots < desks.old.side.slots + length files.outputs → desks.old_in.side.slots < desks.new_in.side.slots
        → holds desks.old files.input ≡ Some (desks.new_in.left desks.old_in.side.slots)
    pub drained : IsDone answer → IsTrue desks.tells → IsTrue (desks.new_in.ended desks.old_in.side.slots)
    -- what failed is answered, told or not: where IN was asked for it was opened, but behind ReadFault; no call on IN failed where the words and
    -- IN decided the answer, and none on an output where it is any but WriteFault
    pub failures : AnswersFailures desks answer
    -- input slots that were there, and where the desk tells output slots that were there and names that weren't opened to be written, are as they were
    pub kept_in : KeepsInputs desks.old_in desks.new_in
    pub kept_out : IsTrue desks.tells → KeepsOutputs desks.old desks.new
