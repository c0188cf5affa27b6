-- A refusal of DOMAIN by which a call that failed is answered.
use Rattle.std.proofs.Common.{◌≡◌, ◌≢◌, Bool, ap, ◌∙◌, subst}
use Rattle.ioam_desk.specs.Asked.{HaveSlots}
use Rattle.ioam_desk.specs.Desk.{Reading, Writing}
use Rattle.ioam_run_answer.specs.Desks.{around}
use Rattle.ioam_run_answer.specs.Failures.{AnswersFailures}
use Rattle.ioam_run_answer.specs.Outcomes.{IsSettled}
use Rattle.ioam_run_answer.specs.declared.outcome.Outcome.{Outcome}
use Rattle.ioam_run_answer.specs.declared.outcome.Outcome.TheVariants as outcome
use Rattle.ioam_run_files.specs.Answer.{refused_as}
use Rattle.ioam_run_files.specs.declared.setting.Refusal.{Refusal}

module _ (tells : Bool) (old_in new_in : Reading) (old new : Writing) where
  -- DOMAIN is refused
  pub failures_refused : (why : Refusal) (answer : Outcome) → answer ≡ refused_as why → (refused_as why ≢ outcome.ReadFault → HaveSlots old_in.side new_in.side)
      → (IsSettled (refused_as why) → new_in.side.faults ≡ old_in.side.faults)
      → new ≡ old → AnswersFailures (around tells old_in new_in old new) answer
  failures_refused why answer is opens reads same = record {
    opens = λ other. opens (λ it. other (is ∙ it));
    reads = λ settled. reads (subst IsSettled is settled);
    writes = λ other. ap (λ (w : Writing). w.side.faults) same;
  }
