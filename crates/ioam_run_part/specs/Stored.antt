-- A text that becomes what a name holds.
use Rattle.std.specs.Prelude.{◌≡◌, ◌≢◌, ℕ, ◌<◌, Bool, IsTrue, IsSomeAnd, List, [], ◌∷◌, ◌++◌, Some, Result, Ok, Err}
use Rattle.ioam_base.specs.Octets.{IsFront}
use Rattle.ioam_desk.specs.Desk.{Writing, Rose, holds}
use Rattle.ioam_desk.specs.declared.fault.DeskFault.{DeskFault}
use Rattle.ioam_desk.specs.declared.fault.DeskFault.TheVariants.{Failed, NoMemory}
use Rattle.ioam_run_answer.specs.declared.outcome.Outcome.{Outcome}
use Rattle.ioam_run_answer.specs.declared.outcome.Outcome.TheVariants as outcome

-- the name holds a front of the text
abbrev pub HoldsFrontOf : Writing → List ℕ → List ℕ → Type 0
HoldsFrontOf desk name text = IsSomeAnd (holds desk name) (λ front. IsFront front text)

-- what became of a text whose name was opened to be written: the name holds the text; or, where it was opened, a front of it
module _ (tells : Bool) (name text : List ℕ) (old new : Writing) where
  abbrev pub Stores : Result (Unit {0}) DeskFault → Type 0
  Stores (Ok _) = (new.side.asked ≡ old.side.asked ++ name ∷ []) × (IsTrue tells → holds new name ≡ Some text)
  Stores (Err Failed) = Rose old.side.faults new.side.faults × (IsTrue tells → old.side.slots < new.side.slots → HoldsFrontOf new name text)
  Stores (Err NoMemory) = IsTrue tells → old.side.slots < new.side.slots → HoldsFrontOf new name text

-- what failed is answered: unless that is the answer no write failed, and no opening
abbrev pub AnswersWrites : Writing → Writing → Result (Unit {0}) DeskFault → Type 0
AnswersWrites old new result = result ≢ Err Failed → new.side.faults ≡ old.side.faults

-- the answer for what became of the writing
abbrev pub answer_of : Result (Unit {0}) DeskFault → Outcome
answer_of (Ok _) = outcome.Done
answer_of (Err Failed) = outcome.WriteFault
answer_of (Err NoMemory) = outcome.NoMemory
