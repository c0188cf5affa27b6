-- What failed is answered: of one output, and of one input.
use Rattle.std.proofs.Common.{◌≡◌, Err, ap, ◌∙◌}
use Rattle.std.specs.Prelude.{◌≢◌, Result}
use Rattle.ioam_desk.specs.Desk.{Reading, Writing}
use Rattle.ioam_desk.specs.declared.fault.DeskFault.{DeskFault}
use Rattle.ioam_run_answer.specs.declared.outcome.Outcome.{Outcome}
use Rattle.ioam_run_answer.specs.declared.outcome.Outcome.TheVariants as outcome
use Rattle.ioam_run_part.specs.Stored.{AnswersWrites}
use Rattle.ioam_run_part.specs.Stored as stored
use Rattle.ioam_run_part.specs.Two.{AnswersTwo}
use Rattle.ioam_run_part.specs.Unread.{AnswersReads}
use Rattle.ioam_run_part.specs.declared.unread.Unread.{Unread}
use Rattle.ioam_run_part.specs.declared.unread.Unread.TheVariants as unread

-- the answer for what became of a text
pub written_answered : (old new : Writing) (r : Result (Unit {0}) DeskFault) (answer : Outcome) → answer ≡ stored.answer_of r → AnswersWrites old new r → answer ≢ outcome.WriteFault
    → new.side.faults ≡ old.side.faults
written_answered old new r answer is answers other = answers (λ failed. other (is ∙ ap stored.answer_of failed))

-- the answer for a file that wasn't read, which a failed read alone has as its own
pub read_failed : {A : Type 0} (old new : Reading) (why : Unread) (answer : Outcome) → (why ≡ unread.Failed → answer ≡ outcome.ReadFault)
    → AnswersReads {A = A} old new (Err why) → AnswersTwo old new answer
read_failed old new why answer failed answers other = answers (λ is. let same : why ≡ unread.Failed = cc in other (failed same))
