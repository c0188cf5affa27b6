-- What a run over one input leaves of the desk, whatever its answer.
use Rattle.std.specs.Prelude.{◌≡◌, ℕ, ◌+◌, ◌<◌, ◌⊎◌, IsTrue, List, [], ◌∷◌, ◌++◌, length, Some}
use Rattle.ioam_desk.specs.Asked.{AsksFront}
use Rattle.ioam_desk.specs.Desk.{holds}
use Rattle.ioam_desk.specs.Kept.{KeepsInputs, KeepsOutputs}
use Rattle.ioam_run_answer.specs.Desks.{Desks}
use Rattle.ioam_run_answer.specs.Failures.{AnswersFailures}
use Rattle.ioam_run_answer.specs.Outcomes.{IsDone, IsBehindAll, OpensNothing}
use Rattle.ioam_run_answer.specs.declared.outcome.Outcome.{Outcome}
use Rattle.ioam_run_answer.specs.declared.outcome.Outcome.TheVariants as outcome
use Rattle.ioam_stream.specs.declared.reading.Stop.{Stop}
use Rattle.ioam_stream.specs.declared.reading.Stop.TheVariants as stop

-- the answer of a run that stopped so; `ended` is that of one that ended
abbrev pub answered : Stop → Outcome → Outcome
answered stop.Ended ended = ended
answered stop.ReadFault ended = outcome.ReadFault
answered stop.WriteFault ended = outcome.WriteFault
answered stop.NoMemory ended = outcome.NoMemory

-- the names that were opened, in their order, what stayed as it was, and that what failed is answered; `Apart` says that no
-- two of the names are equal
pub record Bounds (desks : Desks) (input : List ℕ) (outs : List (List ℕ)) (Apart : Type 0) (answer : Outcome) : Type 0 where
  pub asked_in : AsksFront desks.old_in.side.asked desks.new_in.side.asked (input ∷ [])
  pub asked_out : AsksFront desks.old.side.asked desks.new.side.asked outs
  pub all_in : IsBehindAll ⊥ answer → desks.new_in.side.asked ≡ desks.old_in.side.asked ++ input ∷ []
  pub all_out : IsBehindAll ⊥ answer → desks.new.side.asked ≡ desks.old.side.asked ++ outs
  pub unopened : OpensNothing answer → desks.new_in ≡ desks.old_in
  pub differed : (desks.new_in ≡ desks.old_in) ⊎ Apart
  pub no_output : desks.new_in.side.slots ≡ desks.old_in.side.slots → desks.new ≡ desks.old
  pub unread : IsTrue desks.tells → desks.new.side.slots < desks.old.side.slots + length outs → desks.old_in.side.slots < desks.new_in.side.slots
      → holds desks.old input ≡ Some (desks.new_in.left desks.old_in.side.slots)
  pub drained : IsDone answer → IsTrue desks.tells → IsTrue (desks.new_in.ended desks.old_in.side.slots)
  pub failures : AnswersFailures desks answer
  pub kept_in : KeepsInputs desks.old_in desks.new_in
  pub kept_out : IsTrue desks.tells → KeepsOutputs desks.old desks.new
