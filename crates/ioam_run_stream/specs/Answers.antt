-- What a command over one capture answers, by how its run ended.
use Rattle.std.specs.Prelude.{◌≡◌, ◌⊎◌, ⊤, ℕ, IsTrue, IsSomeAnd, Bool, List}
use Rattle.ioam_desk.specs.Desk.{Reading, Writing, Rose, holds}
use Rattle.ioam_pcap.specs.Ending.{Whole, Faulty}
use Rattle.ioam_run_answer.specs.declared.outcome.Outcome.{Outcome}
use Rattle.ioam_run_answer.specs.declared.outcome.Outcome.TheVariants as outcome
use Rattle.ioam_run_stream.specs.Promise.{IsInput, IsLong}
use Rattle.ioam_run_stream.specs.declared.captured.End.{End}
use Rattle.ioam_run_stream.specs.declared.captured.End.TheVariants as end
use Rattle.ioam_stream.specs.declared.reading.Stop.{Stop}
use Rattle.ioam_stream.specs.declared.reading.Stop.TheVariants as stop

-- the answer where no record is taken any more
abbrev pub answer_of : List ℕ → ℕ → End → Outcome
answer_of input limit end.Open = outcome.Done
answer_of input limit end.Whole = outcome.Done
answer_of input limit (end.Bad at fault) = outcome.Capture input at fault
answer_of input limit end.Limit = outcome.Packets limit

-- this is the answer of a run that ended so; memory may run out where it names the capture
abbrev pub Answers : List ℕ → ℕ → Stop → End → Outcome → Type 0
Answers input limit stop.Ended why answer = (answer ≡ answer_of input limit why) ⊎ (answer ≡ outcome.NoMemory)
Answers input limit stop.ReadFault why answer = answer ≡ outcome.ReadFault
Answers input limit stop.WriteFault why answer = answer ≡ outcome.WriteFault
Answers input limit stop.NoMemory why answer = answer ≡ outcome.NoMemory

-- the causes of the answers if the names are known to differ, with this limit
module _ (most : ℕ) (tells : Bool) (input : List ℕ) (old_in : Reading) (old_out : Writing) (new_in : Reading) (new_out : Writing) where
  -- the cause of each answer over opened files, by what IN holds and by the counts of faults
  abbrev pub FileCause : Outcome → Type 0
  FileCause outcome.ReadFault = Rose old_in.side.faults new_in.side.faults
  FileCause outcome.WriteFault = Rose old_out.side.faults new_out.side.faults
  FileCause outcome.NoMemory = ⊤
  FileCause outcome.Done = IsTrue tells → IsSomeAnd (holds old_out input) (IsInput most Whole)
  FileCause (outcome.Packets limit) = (limit ≡ most) × (IsTrue tells → IsSomeAnd (holds old_out input) (IsLong most))
  FileCause (outcome.Capture name at fault) = (name ≡ input) × (IsTrue tells → IsSomeAnd (holds old_out input) (IsInput most (Faulty at fault)))
  FileCause _ = ⊥
