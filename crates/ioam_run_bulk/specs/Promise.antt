-- What `bulk SEED COUNT WORKERS REPORT` promises.
use Rattle.std.specs.Prelude.{◌≡◌, ℕ, ◌⊎◌, ⊤, IsTrue, List, [], ◌∷◌, ◌++◌, length, replicate, Some}
use Rattle.ioam_run_answer.specs.declared.outcome.Outcome.{Outcome}
use Rattle.ioam_run_answer.specs.declared.outcome.Outcome.TheVariants as outcome
use Rattle.ioam_clock.specs.declared.sample.Sample.{Sample}
use Rattle.ioam_desk.specs.Asked.{AsksFront}
use Rattle.ioam_desk.specs.Desk.{Writing, Rose, holds}
use Rattle.ioam_desk.specs.Kept.{KeepsOutputs}
use Rattle.ioam_run_answer.specs.Desks.{Desks}
use Rattle.ioam_run_answer.specs.Failures.{AnswersFailures}
use Rattle.ioam_run_answer.specs.Outcomes.{IsDone}
use Rattle.ioam_run_arrivals.specs.Fate.{Fate, AreFates}
use Rattle.ioam_run_arrivals.specs.Texts.{ways_of}
use Rattle.ioam_topo_generated.specs.Bulk.{IsBulkDomain}
use Rattle.ioam_desk_outputs.specs.Held.{HoldFronts}
use Rattle.ioam_report.specs.SumsText.{arrivals_text}
use Rattle.ioam_topo.specs.Domain.{nodes}
use Rattle.ioam_topo.specs.declared.domain.Domain.{Domain}
use Rattle.ioam_run_bulk.specs.Generated.{arrivals}

-- no samples of any node
abbrev pub no_readings : Domain → List (List Sample)
no_readings domain = replicate (length (nodes domain)) []

-- the text is the sums of what becomes of so many generated arrivals in their domain, of which nothing else becomes
pub record IsReport (seed count : ℕ) (text : List ℕ) : Type 0 where
  pub domain : Domain
  pub fates : List Fate
  pub is_domain : IsBulkDomain count domain
  pub become : AreFates domain (no_readings domain) (arrivals seed count) fates
  pub only : (others : List Fate) → AreFates domain (no_readings domain) (arrivals seed count) others → others ≡ fates
  pub text_is : text ≡ arrivals_text domain (ways_of fates)

module _ (seed count : ℕ) where
  -- REPORT holds the sums
  abbrev pub HoldsReport : List ℕ → Writing → Type 0
  HoldsReport report new = (text : List ℕ) × IsReport seed count text × (holds new report ≡ Some text)

  -- nothing, or the sums
  abbrev pub MayReport : List ℕ → Type 0
  MayReport text = (text ≡ []) ⊎ IsReport seed count text

  -- where REPORT was opened it holds nothing, or a front of the sums
  abbrev pub HoldsFront : List ℕ → Writing → Writing → Type 0
  HoldsFront report old new = (text : List ℕ) × MayReport text × HoldFronts old new 0 (report ∷ []) (text ∷ [])

  -- what REPORT holds afterwards, where the desk tells
  abbrev pub Leaves : List ℕ → Writing → Writing → Outcome → Type 0
  Leaves report old new outcome.Done = HoldsReport report new
  Leaves report old new outcome.WriteFault = HoldsFront report old new
  Leaves report old new outcome.NoMemory = HoldsFront report old new
  Leaves report old new _ = ⊥

-- the cause of each answer; want of memory alone has none
abbrev pub HasCause : Writing → Writing → Outcome → Type 0
HasCause old new outcome.Done = ⊤
HasCause old new outcome.WriteFault = Rose old.side.faults new.side.faults
HasCause old new outcome.NoMemory = ⊤
HasCause old new _ = ⊥

-- ---- the promise

-- of a load of this seed and count, whose sums go to this file
module _ (desks : Desks) (seed count : ℕ) (report : List ℕ) where
  -- what `bulk` promises of its answer
  pub record Keeps (answer : Outcome) : Type 0 where
    pub cause : HasCause desks.old desks.new answer
    -- the sums follow from the journeys alone, so they hold whether the gate opens or not
    pub leaves : IsTrue desks.tells → Leaves seed count report desks.old desks.new answer
    -- it is done, unless a call of the desk failed or no memory could be had
    pub exact : (Rose desks.old.side.faults desks.new.side.faults → ⊥) → (answer ≡ outcome.Done) ⊎ (answer ≡ outcome.NoMemory)
    -- REPORT alone is opened, and no input
    pub asked_out : AsksFront desks.old.side.asked desks.new.side.asked (report ∷ [])
    pub all_out : IsDone answer → desks.new.side.asked ≡ desks.old.side.asked ++ report ∷ []
    pub inputs : desks.new_in ≡ desks.old_in
    -- what failed is answered: neither passed over nor tried again
    pub failures : AnswersFailures desks answer
    -- output slots that were there, and names other than REPORT, are as they were where the desk tells
    pub kept_out : IsTrue desks.tells → KeepsOutputs desks.old desks.new
