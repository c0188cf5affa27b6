-- Of what the commands promise: what the top call says of each of them alike.
use Rattle.std.proofs.Common.{◌≡◌, ◌⊎◌, ℕ, Bool, IsTrue, List, sym, subst}
use Rattle.ioam_cmd.specs.Promise.{Asked, Keeps, bulk_report}
use Rattle.ioam_words.specs.declared.command.Command.{Command}
use Rattle.ioam_words.specs.declared.command.Command.TheVariants.{Filter, Leaks, Paths, Delays, Show, Save, Node, Audit, Run, Bulk, Collect, Ipfix, Records, Part, Merge, Parts}
use Rattle.ioam_desk.specs.Desk.{Rose}
use Rattle.ioam_desk.specs.Kept.{KeepsInputs, KeepsOutputs}
use Rattle.ioam_desk.proofs.KeptLaws.{KeepsInputs-same}
use Rattle.ioam_run_answer.specs.Entries.{Taken}
use Rattle.ioam_run_answer.specs.Desks.{Desks}
use Rattle.ioam_run_answer.specs.Failures.{AnswersFailures}
use Rattle.ioam_run_answer.specs.declared.outcome.Outcome.{Outcome}
use Rattle.ioam_run_answer.specs.declared.outcome.Outcome.TheVariants as outcome
use Rattle.ioam_run_bulk.specs.Promise as bulk
use Rattle.ioam_run_collect.specs.Promise as collect
use Rattle.ioam_run_collect.specs.Promise.{collect_names}
use Rattle.ioam_run_ipfix.specs.Promise.{IpfixKeeps, RecordsKeeps, ipfix_names, records_names}
use Rattle.ioam_run_part.specs.Files.{merge_names, part_names, parts_names}
use Rattle.ioam_run_part.specs.MergePromise.{MergeKeeps}
use Rattle.ioam_run_part.specs.PartPromise.{PartKeeps}
use Rattle.ioam_run_part.specs.PartsPromise.{PartsKeeps}
use Rattle.ioam_run_audit.specs.RunStreamPromise as capture
use Rattle.ioam_run_audit.specs.RunStreamPromise.{CaptureNames}

-- what is asked for is answered, where nothing fails
module _ (opens : Bool) (desks : Desks) (words : List (List ℕ)) (told : IsTrue desks.tells)
    (reads : Rose desks.old_in.side.faults desks.new_in.side.faults → ⊥) (writes : Rose desks.old.side.faults desks.new.side.faults → ⊥) where
  pub answers_asked : (command : Command) (answer asked : Outcome) → Keeps opens desks words command answer → Asked desks words command asked
      → (answer ≡ asked) ⊎ (answer ≡ outcome.NoMemory)
  answers_asked Filter answer asked keeps asks = keeps.keeps.exact asked told asks reads writes
  answers_asked Leaks answer asked keeps asks = keeps.exact asked told asks reads writes
  answers_asked Paths answer asked keeps asks = keeps.exact asked told asks reads writes
  answers_asked (Delays format) answer asked keeps asks = keeps.exact asked told asks reads writes
  answers_asked Show answer asked keeps asks = keeps.exact asked told asks reads writes
  answers_asked Save answer asked keeps asks = keeps.keeps.exact asked told asks reads writes
  answers_asked Node answer asked keeps asks = keeps.exact asked told asks reads writes
  answers_asked Audit answer asked keeps asks = keeps.exact asked told asks reads writes
  answers_asked (Run workers) answer asked keeps asks = keeps.keeps.exact asked told asks reads writes
  answers_asked (Bulk seed count workers) answer asked keeps asks =
      subst (λ (a : Outcome). (answer ≡ a) ⊎ (answer ≡ outcome.NoMemory)) (sym asks) (keeps.exact writes)
  answers_asked Collect answer asked keeps asks = keeps.exact asked told asks reads writes
  answers_asked Ipfix answer asked keeps asks = keeps.exact asked told asks reads writes
  answers_asked Records answer asked keeps asks = keeps.exact asked told asks reads writes
  answers_asked Part answer asked keeps asks = keeps.exact asked told asks reads writes
  answers_asked Merge answer asked keeps asks = keeps.exact asked told asks reads writes
  answers_asked Parts answer asked keeps asks = keeps.exact asked told asks reads writes

-- What the top call says of each answer: a fault of reading or writing comes only where its count rose, what failed is answered,
-- Usage never comes, and what isn't the run's is as it was.
module _ (desks : Desks) (answer : Outcome) where
  pub record Sound : Type 0 where
    pub usage : answer ≡ outcome.Usage → ⊥
    pub read_fault : answer ≡ outcome.ReadFault → Rose desks.old_in.side.faults desks.new_in.side.faults
    pub write_fault : answer ≡ outcome.WriteFault → Rose desks.old.side.faults desks.new.side.faults
    pub failures : AnswersFailures desks answer
    pub kept_in : KeepsInputs desks.old_in desks.new_in
    pub kept_out : IsTrue desks.tells → KeepsOutputs desks.old desks.new

  sound_of : (answer ≡ outcome.Usage → ⊥) → (answer ≡ outcome.ReadFault → Rose desks.old_in.side.faults desks.new_in.side.faults)
      → (answer ≡ outcome.WriteFault → Rose desks.old.side.faults desks.new.side.faults)
      → AnswersFailures desks answer → KeepsInputs desks.old_in desks.new_in → (IsTrue desks.tells → KeepsOutputs desks.old desks.new) → Sound
  sound_of usage read_fault write_fault failures kept_in kept_out = record {
    usage = usage;
    read_fault = read_fault;
    write_fault = write_fault;
    failures = failures;
    kept_in = kept_in;
    kept_out = kept_out;
  }

  -- of a command whose promise tells the cause of each answer
  by_cause : {Cause : Outcome → Type 0} (Promise : Outcome → Type 0) → Promise answer → ((a : Outcome) → Promise a → Cause a) → (Cause outcome.Usage → ⊥)
      → (Cause outcome.ReadFault → Rose desks.old_in.side.faults desks.new_in.side.faults) → (Cause outcome.WriteFault → Rose desks.old.side.faults desks.new.side.faults)
      → AnswersFailures desks answer → KeepsInputs desks.old_in desks.new_in → (IsTrue desks.tells → KeepsOutputs desks.old desks.new) → Sound
  by_cause {Cause = Cause} Promise keeps cause usage read_fault write_fault failures kept_in kept_out =
      sound_of (λ is. usage (subst Cause is (cause answer keeps))) (λ is. read_fault (subst Cause is (cause answer keeps)))
      (λ is. write_fault (subst Cause is (cause answer keeps))) failures kept_in kept_out

  -- of a command over one capture
  of_capture : (Texts : List Taken → List (List ℕ) → Type 0) (files : CaptureNames) → capture.Keeps Texts desks files answer → Sound
  of_capture Texts files keeps =
      by_cause (capture.Keeps Texts desks files) keeps (λ a k. k.cause) (λ c. c) (λ c. c) (λ c. c) keeps.failures keeps.kept_in keeps.kept_out

pub sound : (opens : Bool) (desks : Desks) (words : List (List ℕ)) (command : Command) (answer : Outcome) → Keeps opens desks words command answer
    → Sound desks answer
sound opens desks words Filter answer keeps = of_capture desks answer _ _ keeps.keeps
sound opens desks words Leaks answer keeps = of_capture desks answer _ _ keeps
sound opens desks words Paths answer keeps = of_capture desks answer _ _ keeps
sound opens desks words (Delays format) answer keeps = of_capture desks answer _ _ keeps
sound opens desks words Show answer keeps = of_capture desks answer _ _ keeps
sound opens desks words Save answer keeps = of_capture desks answer _ _ keeps.keeps
sound opens desks words Node answer keeps =
    sound_of desks answer keeps.owes.usage keeps.owes.read_fault keeps.owes.write_fault keeps.failures keeps.owes.kept_in keeps.owes.kept_out
sound opens desks words Audit answer keeps =
    sound_of desks answer keeps.owes.usage keeps.owes.read_fault keeps.owes.write_fault keeps.failures keeps.owes.kept_in keeps.owes.kept_out
sound opens desks words (Run workers) answer keeps =
    let run = keeps.keeps in sound_of desks answer run.usage run.read_fault run.write_fault run.failures run.kept_in run.kept_out
sound opens desks words (Bulk seed count workers) answer keeps =
    by_cause desks answer (bulk.Keeps desks seed count (bulk_report words)) keeps (λ a k. k.cause) (λ c. c) (λ c. absurd c) (λ c. c) keeps.failures
    (KeepsInputs-same desks.old_in desks.new_in keeps.inputs) keeps.kept_out
sound opens desks words Collect answer keeps =
    by_cause desks answer (collect.Keeps desks (collect_names words)) keeps (λ a k. k.cause) (λ c. c) (λ c. c) (λ c. c) keeps.failures keeps.kept_in keeps.kept_out
sound opens desks words Ipfix answer keeps =
    by_cause desks answer (IpfixKeeps desks (ipfix_names words)) keeps (λ a k. k.cause) (λ c. c) (λ c. c) (λ c. c) keeps.failures keeps.kept_in keeps.kept_out
sound opens desks words Records answer keeps =
    by_cause desks answer (RecordsKeeps desks (records_names words)) keeps (λ a k. k.cause) (λ c. c) (λ c. c) (λ c. c) keeps.failures keeps.kept_in keeps.kept_out
sound opens desks words Part answer keeps =
    by_cause desks answer (PartKeeps desks (part_names words)) keeps (λ a k. k.cause) (λ c. c) (λ c. c) (λ c. c) keeps.failures keeps.kept_in keeps.kept_out
sound opens desks words Merge answer keeps =
    by_cause desks answer (MergeKeeps desks (merge_names words)) keeps (λ a k. k.cause) (λ c. c) (λ c. c) (λ c. c) keeps.failures keeps.kept_in keeps.kept_out
sound opens desks words Parts answer keeps =
    by_cause desks answer (PartsKeeps desks (parts_names words)) keeps (λ a k. k.cause) (λ c. c) (λ c. c) (λ c. c) keeps.failures keeps.kept_in keeps.kept_out
