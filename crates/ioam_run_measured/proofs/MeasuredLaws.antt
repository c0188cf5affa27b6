-- From what a run leaves to what `collect` tells of it.
use Rattle.std.proofs.Common.{◌≡◌, ℕ, ◌+◌, ◌≤◌, Bool, IsSomeAnd, List, [], ◌∷◌, ◌++◌, length, Option, None, Some, refl, sym, ◌∙◌, ap, subst, inl, inr, length-append, append-nil, append_assoc, arith}
use Rattle.std.specs.Prelude.{◌≢◌, All, Contains}
use Rattle.std.proofs.lemmas.List.{length-map}
use Rattle.std.proofs.lemmas.List.Elements.{All-map, Contains-append_left, recursion_from_All}
use Rattle.ioam_base.specs.Octets.{IsFront}
use Rattle.ioam_run_answer.specs.Sample.{Sample}
use Rattle.ioam_run_collect.specs.Collected.{count_kept}
use Rattle.ioam_run_collect.proofs.CountLaws.{count_kept-grows}
use Rattle.ioam_run_collect.specs.Promise as collect
use Rattle.ioam_run_collect.specs.Promise.{EndsSo, HoldsPart, HoldsReport}
use Rattle.ioam_desk.specs.Desk.{Reading, Writing, holds}
use Rattle.ioam_run_answer.specs.Faults.{IsCut}
use Rattle.ioam_run_answer.specs.Reads.{Ending, EndsAt, Faulty, Reads, ReadsOnly, Splits, Whole}
use Rattle.ioam_run_answer.specs.Record.{IsRecord, Record}
use Rattle.ioam_run_answer.proofs.ReadsLaws.{Splits-feed, cut-no-record}
use Rattle.ioam_run_domain.specs.Promise as run
use Rattle.ioam_run_domain.specs.Promise.{HoldsFiles, IsReady, RunNames, course_for}
use Rattle.ioam_run_arrivals.specs.Fate.{AreFates, Fate, Frame}
use Rattle.ioam_run_arrivals.specs.Texts.{exports_text, report_text}
use Rattle.ioam_report_groups.specs.GroupsText.{records_text}
use Rattle.ioam_capture.specs.Merge.{Arrival}
use Rattle.ioam_run_answer.specs.declared.outcome.Outcome.{Outcome}
use Rattle.ioam_run_answer.specs.declared.outcome.Outcome.TheVariants as outcome
use Rattle.ioam_run_measured.specs.Measured.{AreCollected, ArePaths, Collects, IsCollected, IsAllMeasured, IsPartCollected, IsPartMeasured, Measures, RunThenCollect, TellsFirst, TellsPart, TellsPassed, asked_by}
use Rattle.ioam_run_measured.proofs.PartedLaws.{merged_is, printed_same}
use Rattle.ioam_desk_outputs.specs.Held.{HoldFronts, HoldsFront}
use Rattle.ioam_run_collect.specs.Exported.{AreFirst, AreFirstOfRun, IsTimely, IsTold, ending_with}
use Rattle.ioam_run_collect.specs.Paths.{AreOfRun, exports_of}
use Rattle.ioam_run_collect.proofs.ExportLaws.{reads-run}
use Rattle.ioam_run_collect.proofs.FrontLaws.{first_among}
use Rattle.ioam_run_collect.proofs.ReadLaws.{regrouped}
use Rattle.ioam_run_collect.proofs.WholeLaws.{fronts-read, whole_paths}
use Rattle.ioam_run_collect.specs.Gathering.{AreFew, AreWhole, IsPast, Passes}
use Rattle.ioam_topo.specs.declared.domain.Domain.{Domain}
use Rattle.ioam_run_domain.specs.Traffic as traffic
use Rattle.ioam_run_domain.specs.Traffic.{Course, HoldsFronts, frame_of, frames_of}

-- what is so of a file's octets is so of those that it holds
of_held : (content : Option (List ℕ)) (octets : List ℕ) (P : List ℕ → Type 0) → content ≡ Some octets → IsSomeAnd content P → P octets
of_held content octets P is some = subst (λ (o : Option (List ℕ)). IsSomeAnd o P) is some

-- and what follows from it
then_held : (content : Option (List ℕ)) (P Q : List ℕ → Type 0) → ((octets : List ℕ) → P octets → Q octets) → IsSomeAnd content P → IsSomeAnd content Q
then_held None P Q follows is = absurd is
then_held (Some octets) P Q follows is = follows octets is

-- where one record is too many behind these, there are too many in all
past_few : (limit : ℕ) (records : List Record) (x : Record) (more all : List Record) → IsPast limit records x → all ≡ (records ++ x ∷ []) ++ more
    → AreFew all → ⊥
past_few limit records x more all past is few =
    let grows = count_kept-grows (records ++ x ∷ []) more in
    let kept : count_kept all ≡ count_kept ((records ++ x ∷ []) ++ more) = ap count_kept is in
    let size : length all ≡ length (records ++ x ∷ []) + length more = ap length is ∙ length-append (records ++ x ∷ []) more in
    elim past [
      | inl over ↦ let most = over.1 in omega (arith, most, grows, kept, few.held)
      | inr over ↦ let most = over.2 in omega (arith, most, size, few.read)
    ]

-- what stands behind whole records is cut
cut_there : (at : ℕ) (rest : List ℕ) (read : List Record) (left : List ℕ) → EndsAt at rest (ending_with read left) → IsCut rest
cut_there at rest read [] ends = inl (omega (arith, ap length ends))
cut_there at rest read (octet ∷ left) ends = ends.1

-- what octets ask for that end so
asks : (ending : Ending) (octets : List ℕ) (read : List Record) → Reads octets read ending → (tells : Bool) (exports report : List ℕ) → exports ≢ report
    → AreFew read → collect.Asked tells (Some octets) exports report (asked_by ending)
asks Whole octets read reads tells exports report differ few = (differ, λ told. record { records = read; reads = reads; few = few })
asks (Faulty at fault) octets read reads tells exports report differ few = (differ, λ told. record { records = read; reads = reads; few = few })

-- ---- of octets that are these records, and behind them the front of one more

module _ (octets : List ℕ) (read : List Record) (left : List ℕ) (reads : Reads octets read (ending_with read left))
    (only : ReadsOnly octets read (ending_with read left)) where
  abbrev ending : Ending
  ending = ending_with read left

  -- what they begin with is the first of the records
  begins : (records : List Record) (rest : List ℕ) → Splits octets records rest → AreFirst records read
  begins records rest splits = first_among records read rest reads.rest (recursion_from_All IsRecord records splits.each)
      (recursion_from_All IsRecord read reads.splits.each) (cut-no-record reads.rest (cut_there _ reads.rest read left reads.ends))
      (sym splits.is ∙ reads.splits.is)

  module _ (old new : Writing) (report : List ℕ) where
    ended : (other : Ending) → HoldsReport (EndsSo other) new report octets → (ending ≡ other) × (holds new report ≡ Some (records_text read))
    ended other held =
        let same = only held.records other held.are in
        (sym same.1, held.held ∙ ap (λ (xs : List Record). Some (records_text xs)) same.0)

    passed : (limit : ℕ) → HoldsReport (Passes limit) new report octets → (AreFew read → ⊥) × TellsPassed read ending limit new report
    passed limit held =
        let last : List Record = held.are.next ∷ [] in
        let begin = begins (held.records ++ last) held.are.rest held.are.splits in (
          past_few limit held.records held.are.next begin.more read held.are.past begin.are,
          record { records = held.records; next = held.are.next; first = begin; past = held.are.past; held = held.held },
        )

    whole_told : (behind : List ℕ) → HoldsReport (AreWhole behind) new report octets → TellsFirst read ending new report
    whole_told behind held =
        let P : List ℕ → Type 0 = λ o. Splits o held.records (held.are.rest ++ behind) in record {
          records = held.records;
          first = begins held.records (held.are.rest ++ behind)
              (subst P (sym held.are.parts) (Splits-feed held.are.handed behind held.records held.are.rest held.are.splits));
          held = held.held;
        }

    part_told : HoldsPart old new report octets → TellsPart read ending old new report
    part_told held = record { records = held.records; first = begins held.records held.first.0 held.first.1; held = held.held }

  -- by the answer
  collects : (content : Option (List ℕ)) (report : List ℕ) (old_in new_in : Reading) (old new : Writing) (answer : Outcome) → content ≡ Some octets
      → collect.Leaves content report old_in new_in old new answer → Collects read ending old new report answer
  collects content report old_in new_in old new outcome.Done is leaves =
      ended old new report Whole (of_held content octets (HoldsReport (EndsSo Whole) new report) is leaves)
  collects content report old_in new_in old new (outcome.Records limit) is leaves =
      passed old new report limit (of_held content octets (HoldsReport (Passes limit) new report) is leaves)
  collects content report old_in new_in old new (outcome.Exports at fault) is leaves =
      ended old new report (Faulty at fault) (of_held content octets (HoldsReport (EndsSo (Faulty at fault)) new report) is leaves)
  collects content report old_in new_in old new outcome.ReadFault is (inl early) = inl early.1
  collects content report old_in new_in old new outcome.ReadFault is (inr late) =
      let behind = new_in.left old_in.side.slots in
      inr (whole_told old new report behind (of_held content octets (HoldsReport (AreWhole behind) new report) is late.1))
  collects content report old_in new_in old new outcome.WriteFault is leaves =
      part_told old new report (of_held content octets (HoldsPart old new report) is leaves)
  collects content report old_in new_in old new outcome.NoMemory is (inl same) = inl same
  collects content report old_in new_in old new outcome.NoMemory is (inr part) =
      inr (part_told old new report (of_held content octets (HoldsPart old new report) is part))
  collects content report old_in new_in old new (outcome.Names name) is leaves = leaves
  collects content report old_in new_in old new outcome.Usage is leaves = leaves
  collects content report old_in new_in old new (outcome.Domain fault) is leaves = leaves
  collects content report old_in new_in old new (outcome.Readings fault) is leaves = leaves
  collects content report old_in new_in old new (outcome.Capture name at fault) is leaves = leaves
  collects content report old_in new_in old new (outcome.Ipfix at fault) is leaves = leaves
  collects content report old_in new_in old new (outcome.Part name at fault) is leaves = leaves
  collects content report old_in new_in old new (outcome.Packets limit) is leaves = leaves

  are_collected : AreCollected read ending octets
  are_collected = record {
    asks = asks ending octets read reads;
    tells = λ files old_in new_in old new answer is leaves.
        collects (holds old files.exports) files.report old_in new_in old new answer is leaves;
  }

-- ---- of the octets that a run exported

module _ (domain : Domain) (readings : List (List Sample)) (frames : List Frame) (fates : List Fate) (told : IsTold domain readings frames fates) where
  abbrev all_octets : List ℕ
  all_octets = exports_text domain readings fates

  abbrev all_records : List Record
  all_records = exports_of domain readings fates

  first_paths : (read : List Record) → AreFirstOfRun domain readings fates read → ArePaths domain readings fates read
  first_paths read front records first =
      let all : all_records ≡ records ++ (first.more ++ front.more) = front.are ∙ ap (λ (xs : List Record). xs ++ front.more) first.are
      ∙ append_assoc records first.more front.more in
      let are : AreOfRun domain readings fates records = λ x there.
      (x, subst (λ (xs : List Record). Contains xs x) (sym all) (Contains-append_left records (first.more ++ front.more) x there), inl refl) in
      regrouped domain readings frames fates told.run records are

  collected : IsCollected domain readings fates all_octets
  collected =
      let read = reads-run domain readings frames fates told in record {
        reads = read.reads;
        only = read.only;
        whole = whole_paths domain readings frames fates told.run;
        paths = first_paths all_records (record { more = []; are = sym (append-nil all_records) });
        collected = are_collected all_octets all_records [] read.reads read.only;
        merged = λ tree part same is. merged_is tree all_records part same is;
        printed = λ part records of is. printed_same part records all_records of is;
      }

  part_collected : (octets : List ℕ) → IsFront octets all_octets → IsPartCollected domain readings fates octets
  part_collected octets begins_all =
      let front = fronts-read domain readings frames fates octets told begins_all in record {
        front = front;
        paths = first_paths front.read front.first;
        collected = are_collected octets front.read front.left front.reads front.only;
      }

-- ---- fronts that files hold

-- the last file, where all were opened
last_front : (old new : Writing) (k : ℕ) (names texts : List (List ℕ)) (name text : List ℕ)
    → HoldFronts old new k (names ++ name ∷ []) (texts ++ text ∷ []) → HoldsFront old new (k + length names) name text
last_front old new k [] [] name text held = λ opened. held.0 (omega (arith, opened))
last_front old new k [] (other ∷ []) name text held = absurd held.1
last_front old new k [] (other ∷ more ∷ texts) name text held = absurd held.1
last_front old new k (first ∷ []) [] name text held = absurd held.1
last_front old new k (first ∷ second ∷ names) [] name text held = absurd held.1
last_front old new k (first ∷ names) (other ∷ texts) name text held = λ opened.
    last_front old new (k + 1) names texts name text held.1 (omega (arith, opened))

-- two lists, and two elements behind them: the last by itself
ends_last : (a b : List (List ℕ)) (x y : List ℕ) → a ++ (b ++ x ∷ y ∷ []) ≡ (a ++ (b ++ x ∷ [])) ++ y ∷ []
ends_last a b x y = ap (λ xs. a ++ xs) (sym (append_assoc b (x ∷ []) (y ∷ []))) ∙ sym (append_assoc a (b ++ x ∷ []) (y ∷ []))

last_held : (old new : Writing) (a b : List (List ℕ)) (x y : List ℕ) (c d : List (List ℕ)) (t u : List ℕ)
    → HoldFronts old new 0 (a ++ (b ++ x ∷ y ∷ [])) (c ++ (d ++ t ∷ u ∷ [])) → old.side.slots + length (a ++ (b ++ x ∷ y ∷ [])) ≤ new.side.slots
    → IsSomeAnd (holds new y) (λ part. IsFront part u)
last_held old new a b x y c d t u held opened =
    let all = a ++ (b ++ x ∷ []) in
    let P : List (List ℕ) → List (List ℕ) → Type 0 = λ names texts. HoldFronts old new 0 names texts in
    let size : length (a ++ (b ++ x ∷ y ∷ [])) ≡ length all + 1 = ap length (ends_last a b x y) ∙ length-append all (y ∷ []) in
    let so : P (all ++ y ∷ []) ((c ++ (d ++ t ∷ [])) ++ u ∷ []) =
    subst (P (all ++ y ∷ [])) (ends_last c d t u) (subst (λ names. P names (c ++ (d ++ t ∷ u ∷ []))) (ends_last a b x y) held) in
    last_front old new 0 all (c ++ (d ++ t ∷ [])) y u so (omega (arith, opened, size))

-- ---- of a run

module _ (opens : Bool) (files : RunNames) (old_in new_in : Reading) (old new : Writing) where
  module _ (domain : Domain) (readings : List (List Sample)) (ready : IsReady old files domain readings) where
    abbrev course : Course
    course = course_for opens files old_in old domain readings

    is_told : (taken : List Arrival) (fates : List Fate) → length taken ≤ domain.packets → All traffic.IsTimely taken
        → AreFates domain readings (frames_of course.ports taken) fates → IsTold domain readings (frames_of course.ports taken) fates
    is_told taken fates few timely become =
        let size : length (frames_of course.ports taken) ≡ length taken = length-map taken (frame_of course.ports) in record {
          run = record {
            few = omega (arith, few, size);
            become = become;
          };
          timely = All-map IsTimely (frame_of course.ports) taken timely;
        }

    measured : (Are : List Arrival → Type 0) → HoldsFiles opens files old_in new_in old new course Are
        → IsAllMeasured opens files old_in new_in old new course Are
    measured Are held = record {
      holds_files = held;
      octets = exports_text domain readings held.fates;
      held = held.exports;
      collected = collected domain readings (frames_of course.ports held.taken) held.fates
          (is_told held.taken held.fates held.few held.timely held.become);
    }

    part_measured : HoldsFronts course old new → IsPartMeasured opens files old_in new_in old new course
    part_measured fronts =
        let told = is_told fronts.taken fronts.fates fronts.few fronts.timely fronts.become in record {
          fronts = fronts;
          collected = λ gate opened. then_held (holds new files.exports) (λ part. IsFront part (exports_text domain readings fronts.fates))
              (IsPartCollected domain readings fronts.fates)
              (part_collected domain readings (frames_of course.ports fronts.taken) fronts.fates told)
              (last_held old new _ _ files.report files.exports _ _ (report_text domain readings fronts.fates)
              (exports_text domain readings fronts.fates) (fronts.held gate) opened);
        }

  measures : (answer : Outcome) → run.Leaves opens files old_in new_in old new answer → Measures opens files old_in new_in old new answer
  measures outcome.Done left = (left.0, left.1, left.2, measured left.0 left.1 left.2 _ left.3)
  measures (outcome.Capture name at fault) left = (left.0, left.1, left.2, (left.3.0, left.3.1, measured left.0 left.1 left.2 _ left.3.2))
  measures (outcome.Packets limit) left = (left.0, left.1, left.2, measured left.0 left.1 left.2 _ left.3)
  measures outcome.ReadFault (inl early) = inl early.1
  measures outcome.ReadFault (inr late) = inr (late.0, late.1, late.2, (late.3.0, measured late.0 late.1 late.2 _ late.3.1))
  measures outcome.WriteFault left = (left.0, left.1, left.2, part_measured left.0 left.1 left.2 left.3.fronts)
  measures outcome.NoMemory (inl same) = inl same
  measures outcome.NoMemory (inr some) = inr (some.0, some.1, some.2, part_measured some.0 some.1 some.2 some.3.fronts)
  measures outcome.Usage left = tt
  measures (outcome.Domain fault) left = tt
  measures (outcome.Readings fault) left = tt
  measures (outcome.Names name) left = tt
  measures (outcome.Exports place fault) left = tt
  measures (outcome.Ipfix place fault) left = tt
  measures (outcome.Part which place fault) left = tt
  measures (outcome.Records limit) left = tt

pub run-then-collect : RunThenCollect
run-then-collect opens files old_in new_in old new answer left = measures opens files old_in new_in old new answer left
