-- That a call of the outside that failed is answered, and not passed over.
use Rattle.std.specs.Prelude.{◌≡◌, ◌≢◌}
use Rattle.ioam_desk.specs.Asked.{HaveSlots}
use Rattle.ioam_run_answer.specs.Desks.{Desks}
use Rattle.ioam_run_answer.specs.Outcomes.{IsSettled}
use Rattle.ioam_run_answer.specs.declared.outcome.Outcome.{Outcome}
use Rattle.ioam_run_answer.specs.declared.outcome.Outcome.TheVariants as outcome

-- each input that was asked for was opened, where the answer is any but ReadFault; no call of an input failed where the words and
-- the files decided the answer, and none of an output where it is any but WriteFault
pub record AnswersFailures (desks : Desks) (answer : Outcome) : Type 0 where
  pub opens : answer ≢ outcome.ReadFault → HaveSlots desks.old_in.side desks.new_in.side
  pub reads : IsSettled answer → desks.new_in.side.faults ≡ desks.old_in.side.faults
  pub writes : answer ≢ outcome.WriteFault → desks.new.side.faults ≡ desks.old.side.faults
