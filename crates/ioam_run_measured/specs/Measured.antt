-- What `run` leaves in EXPORTS, and what `collect` makes of these octets later, whatever desk it reads them from: the paths of the
-- packets that were exported of (RFC 9326 section 3.2), the whole paths where the run wrote all that it had to.
use Rattle.std.specs.Prelude.{◌≡◌, ◌≢◌, ℕ, ◌+◌, ◌<◌, ◌≤◌, ◌⊎◌, ⊤, Bool, IsTrue, IsSomeAnd, List, [], ◌∷◌, ◌++◌, length, Some}
use Rattle.ioam_base.specs.Octets.{IsFront}
use Rattle.ioam_run_answer.specs.Sample.{Sample}
use Rattle.ioam_run_collect.specs.Best.{groups_of}
use Rattle.ioam_run_collect.specs.Join.{SameMembers, Tree, leaves}
use Rattle.ioam_run_collect.specs.Keyed.{keyed}
use Rattle.ioam_run_measured.specs.Parted.{AreMerged}
use Rattle.ioam_run_answer.specs.Part.{IsPart, PartOf}
use Rattle.ioam_run_collect.specs.Promise as collect
use Rattle.ioam_run_collect.specs.Promise.{CollectNames}
use Rattle.ioam_desk.specs.Desk.{Reading, Writing, holds}
use Rattle.ioam_run_answer.specs.Reads.{Ending, Whole, Faulty, Reads, ReadsOnly}
use Rattle.ioam_run_answer.specs.Record.{Record}
use Rattle.ioam_run_domain.specs.Promise as run
use Rattle.ioam_run_domain.specs.Promise.{HoldsFiles, OfTraffic, RunNames, run_inputs}
use Rattle.ioam_run_arrivals.specs.Fate.{Fate}
use Rattle.ioam_report_groups.specs.GroupsText.{records_text}
use Rattle.ioam_capture_merge.specs.Merging.{PartsArrive}
use Rattle.ioam_desk_outputs.specs.Names.{name_at}
use Rattle.ioam_capture.specs.Merge.{Arrival}
use Rattle.ioam_capture.specs.declared.turns.Turn.TheVariants as turn
use Rattle.ioam_run_answer.specs.declared.outcome.Outcome.{Outcome}
use Rattle.ioam_run_answer.specs.declared.outcome.Outcome.TheVariants as outcome
use Rattle.ioam_run_collect.specs.Exported.{AreFirst, AreWholePaths, ReadsFront, ending_with}
use Rattle.ioam_run_collect.specs.Paths.{AreRegrouped, exports_of}
use Rattle.ioam_run_collect.specs.Gathering.{AreFew, IsPast}
use Rattle.ioam_topo.specs.declared.domain.Domain.{Domain}
use Rattle.ioam_run_domain.specs.Traffic.{Course, HoldsFronts, ArePassed, AreOpened, Arrive}

-- ---- what `collect` makes of octets that read as these records, and end so

-- what this ending asks for
abbrev pub asked_by : Ending → Outcome
asked_by Whole = outcome.Done
asked_by (Faulty at fault) = outcome.Exports at fault

module _ (read : List Record) (ending : Ending) where
  -- REPORT is the text of the first of the records
  pub record TellsFirst (new : Writing) (report : List ℕ) : Type 0 where
    pub records : List Record
    pub first : AreFirst records read
    pub held : holds new report ≡ Some (records_text records)

  -- REPORT is the text of as many of the first of the records as may be, behind which one is too many
  pub record TellsPassed (limit : ℕ) (new : Writing) (report : List ℕ) : Type 0 where
    pub records : List Record
    pub next : Record
    pub first : AreFirst (records ++ next ∷ []) read
    pub past : IsPast limit records next
    pub held : holds new report ≡ Some (records_text records)

  -- where it was opened, it is a front of the text of the first of them
  pub record TellsPart (old new : Writing) (report : List ℕ) : Type 0 where
    pub records : List Record
    pub first : AreFirst records read
    pub held : old.side.slots < new.side.slots → IsSomeAnd (holds new report) (λ part. IsFront part (records_text records))

  -- What REPORT tells of the records, by the answer. Done and Exports come only where the octets end so, and there are too many only where the
  -- records are more than may be.
  abbrev pub Collects : Writing → Writing → List ℕ → Outcome → Type 0
  Collects old new report outcome.Done = (ending ≡ Whole) × (holds new report ≡ Some (records_text read))
  Collects old new report (outcome.Exports at fault) = (ending ≡ Faulty at fault) × (holds new report ≡ Some (records_text read))
  Collects old new report (outcome.Records limit) = ¬ (AreFew read) × TellsPassed limit new report
  Collects old new report outcome.ReadFault = (new ≡ old) ⊎ TellsFirst new report
  Collects old new report outcome.WriteFault = TellsPart old new report
  Collects old new report outcome.NoMemory = (new ≡ old) ⊎ TellsPart old new report
  Collects old new report (outcome.Names name) = new ≡ old
  Collects old new report _ = ⊥

  -- Where the records are no more than may be, and the names differ, the answer of their ending is what the octets ask of `collect`; and
  -- whatever `collect` leaves where EXPORTS holds these octets tells of the records.
  pub record AreCollected (octets : List ℕ) : Type 0 where
    pub asks : (tells : Bool) (exports report : List ℕ) → exports ≢ report → AreFew read
        → collect.Asked tells (Some octets) exports report (asked_by ending)
    pub tells : (files : CollectNames) (old_in new_in : Reading) (old new : Writing) (answer : Outcome)
        → holds old files.exports ≡ Some octets
        → collect.Leaves (holds old files.exports) files.report old_in new_in old new answer
        → Collects old new files.report answer

-- ---- the octets that a run exported

module _ (domain : Domain) (readings : List (List Sample)) (fates : List Fate) where
  -- of any first of these records the groups are the paths of the run's packets, as far as these are records of them
  abbrev pub ArePaths : List Record → Type 0
  ArePaths read = (records : List Record) → AreFirst records read → AreRegrouped domain readings fates records

  -- These octets are all records of the run, each once and in their order, to the end and in no other way; and so `collect` tells of them.
  -- Their groups are the whole paths of the run's packets, none left out. Cut in any way, each record once or more, collected apart and
  -- merged in any tree, they become the part of these groups.
  pub record IsCollected (octets : List ℕ) : Type 0 where
    pub reads : Reads octets (exports_of domain readings fates) Whole
    pub only : ReadsOnly octets (exports_of domain readings fates) Whole
    pub whole : AreWholePaths domain readings fates (groups_of (keyed (exports_of domain readings fates)))
    pub paths : ArePaths (exports_of domain readings fates)
    pub collected : AreCollected (exports_of domain readings fates) Whole octets
    pub merged : (tree : Tree) (part : List ℕ) → SameMembers (leaves tree) (keyed (exports_of domain readings fates)) → AreMerged tree part
        → PartOf part (groups_of (keyed (exports_of domain readings fates)))
    -- and what `parts` prints of that part, whose records it reads, are these groups
    pub printed : (part : List ℕ) (records : List Record) → PartOf part (groups_of (keyed (exports_of domain readings fates))) → IsPart part records
        → groups_of (keyed records) ≡ groups_of (keyed (exports_of domain readings fates))

  -- They are the first of these records, each whole, and behind them at most a front of the next; and so `collect` tells of them.
  pub record IsPartCollected (octets : List ℕ) : Type 0 where
    pub front : ReadsFront (exports_of domain readings fates) octets
    pub paths : ArePaths front.read
    pub collected : AreCollected front.read (ending_with front.read front.left) octets

-- ---- what `run` leaves

module _ (opens : Bool) (files : RunNames) (old_in new_in : Reading) (old new : Writing) where
  -- the files hold the texts of these arrivals, and what EXPORTS holds, where the gate opens, is what `collect` regroups to their paths
  pub record IsAllMeasured (course : Course) (Are : List Arrival → Type 0) : Type 0 where
    pub holds_files : HoldsFiles opens files old_in new_in old new course Are
    pub octets : List ℕ
    pub held : IsTrue course.opens → holds new files.exports ≡ Some octets
    pub collected : IsCollected course.domain course.readings holds_files.fates octets

  -- they hold fronts of the texts of some first arrivals; and so does EXPORTS, the last of them, where all were opened and the gate opens
  pub record IsPartMeasured (course : Course) : Type 0 where
    pub fronts : HoldsFronts course old new
    pub collected : IsTrue course.opens → old.side.slots + length course.names ≤ new.side.slots
        → IsSomeAnd (holds new files.exports) (IsPartCollected course.domain course.readings fronts.fates)

  -- so it is behind each answer that comes once an output was opened
  abbrev pub Measures : Outcome → Type 0
  Measures outcome.Done = OfTraffic opens files old_in new_in old new (λ course. IsAllMeasured course (Arrive course turn.Over))
  Measures (outcome.Capture name at fault) = OfTraffic opens files old_in new_in old new (λ course. (place : ℕ) × (name ≡ name_at (run_inputs course.domain) place)
      × IsAllMeasured course (Arrive course (turn.Broken place at fault)))
  Measures (outcome.Packets limit) = OfTraffic opens files old_in new_in old new (λ course. IsAllMeasured course (ArePassed course))
  Measures outcome.ReadFault = (new ≡ old)
      ⊎ OfTraffic opens files old_in new_in old new (λ course. AreOpened course new_in × IsAllMeasured course (PartsArrive course.lanes.contents new_in course.lanes.base))
  Measures outcome.WriteFault = OfTraffic opens files old_in new_in old new (λ course. IsPartMeasured course)
  Measures outcome.NoMemory = (new ≡ old) ⊎ OfTraffic opens files old_in new_in old new (λ course. IsPartMeasured course)
  Measures _ = ⊤

-- whatever `run` leaves
abbrev pub RunThenCollect : Type 0
RunThenCollect = (opens : Bool) (files : RunNames) (old_in new_in : Reading) (old new : Writing) (answer : Outcome)
    → run.Leaves opens files old_in new_in old new answer → Measures opens files old_in new_in old new answer
