-- What failed is answered: of one call, and of calls one behind the other.
use Rattle.std.proofs.Common.{◌≡◌, ◌≢◌, Bool, refl, ◌∙◌}
use Rattle.ioam_desk.specs.Asked.{HaveSlots}
use Rattle.ioam_desk.specs.Desk.{Reading, Writing}
use Rattle.ioam_desk.proofs.AskedLaws.{HaveSlots-then}
use Rattle.ioam_run_answer.specs.Desks.{around}
use Rattle.ioam_run_answer.specs.Failures.{AnswersFailures}
use Rattle.ioam_run_answer.specs.Outcomes.{IsSettled}
use Rattle.ioam_run_answer.specs.declared.outcome.Outcome.{Outcome}
use Rattle.ioam_run_answer.specs.declared.outcome.Outcome.TheVariants as outcome

module _ (tells : Bool) (old_in new_in : Reading) (old new : Writing) where
  -- a read failed, and no write
  pub failures-read : new.side.faults ≡ old.side.faults → AnswersFailures (around tells old_in new_in old new) outcome.ReadFault
  failures-read writes = record { opens = λ other. absurd (other refl); reads = λ settled. absurd settled; writes = λ other. writes }

  module _ (slots : HaveSlots old_in.side new_in.side) where
    -- no call failed
    pub failures-none : (answer : Outcome) → new_in.side.faults ≡ old_in.side.faults → new.side.faults ≡ old.side.faults
        → AnswersFailures (around tells old_in new_in old new) answer
    failures-none answer reads writes = record { opens = λ other. slots; reads = λ settled. reads; writes = λ other. writes }

    -- a write failed
    pub failures-write : AnswersFailures (around tells old_in new_in old new) outcome.WriteFault
    failures-write = record { opens = λ other. slots; reads = λ settled. absurd settled; writes = λ other. absurd (other refl) }

    -- no memory could be had, and no write failed
    pub failures-memory : new.side.faults ≡ old.side.faults → AnswersFailures (around tells old_in new_in old new) outcome.NoMemory
    failures-memory writes = record { opens = λ other. slots; reads = λ settled. absurd settled; writes = λ other. writes }

    -- the words and the files didn't decide it
    pub failures-unsettled : (answer : Outcome) → (IsSettled answer → ⊥) → (answer ≢ outcome.WriteFault → new.side.faults ≡ old.side.faults)
        → AnswersFailures (around tells old_in new_in old new) answer
    failures-unsettled answer unsettled writes = record { opens = λ other. slots; reads = λ settled. absurd (unsettled settled); writes = writes }

module _ (tells : Bool) (old_in mid_in new_in : Reading) (old mid new : Writing) (answer : Outcome) where
  -- no call failed before
  pub failures-behind : HaveSlots old_in.side mid_in.side → mid_in.side.faults ≡ old_in.side.faults → mid.side.faults ≡ old.side.faults
      → AnswersFailures (around tells mid_in new_in mid new) answer → AnswersFailures (around tells old_in new_in old new) answer
  failures-behind slots reads writes failures = record {
    opens = λ other. HaveSlots-then old_in.side mid_in.side new_in.side slots (failures.opens other);
    reads = λ settled. failures.reads settled ∙ reads;
    writes = λ other. failures.writes other ∙ writes;
  }

  -- no call failed afterwards
  pub failures-before : HaveSlots mid_in.side new_in.side → new_in.side.faults ≡ mid_in.side.faults → new.side.faults ≡ mid.side.faults
      → AnswersFailures (around tells old_in mid_in old mid) answer → AnswersFailures (around tells old_in new_in old new) answer
  failures-before slots reads writes failures = record {
    opens = λ other. HaveSlots-then old_in.side mid_in.side new_in.side (failures.opens other) slots;
    reads = λ settled. reads ∙ failures.reads settled;
    writes = λ other. writes ∙ failures.writes other;
  }
