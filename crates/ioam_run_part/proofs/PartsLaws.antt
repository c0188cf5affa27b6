-- How a run of `parts` ends.
use Rattle.std.proofs.Common.{◌≡◌, ◌≢◌, ℕ, ◌+◌, ◌<◌, ◌⊎◌, IsTrue, IsSomeAnd, List, [], ◌∷◌, ◌++◌, Ok, Err, refl, sym, ap, ◌∙◌, subst, inl, inr, ⊎_elim, arith}
use Rattle.std.specs.Prelude.{Result}
use Rattle.ioam_desk.specs.Asked.{AsksFront}
use Rattle.ioam_desk.specs.Desk as desk
use Rattle.ioam_desk.specs.Desk.{Side, Writing, Rose}
use Rattle.ioam_desk.specs.Kept.{KeepsOutputs}
use Rattle.ioam_desk.specs.declared.fault.DeskFault.{DeskFault}
use Rattle.ioam_desk.specs.declared.fault.DeskFault.TheVariants.{Failed, NoMemory}
use Rattle.ioam_desk.proofs.AskedLaws.{HaveSlots-one, HaveSlots-still}
use Rattle.ioam_desk.proofs.KeptLaws.{KeepsOutputs-same}
use Rattle.ioam_collect.specs.Collected.{Collected}
use Rattle.ioam_part.specs.declared.fault.PartFault.{PartFault}
use Rattle.ioam_run_answer.specs.Desks.{Desks}
use Rattle.ioam_run_answer.specs.Outcomes.{IsDone, IsSettled, OpensNothing}
use Rattle.ioam_run_answer.specs.declared.outcome.Outcome.{Outcome}
use Rattle.ioam_run_answer.specs.declared.outcome.Outcome.TheVariants as outcome
use Rattle.ioam_run_part.specs.Files.{PartsNames}
use Rattle.ioam_run_part.specs.KeptText.{part_lines}
use Rattle.ioam_run_part.specs.MergePromise.{OpensNoPart}
use Rattle.ioam_run_part.specs.PartsPromise.{HoldsLines, HoldsLinesFront, PartsAsked, PartsCause, PartsKeeps, PartsLeaves, part_held}
use Rattle.ioam_run_part.specs.Records.{IsAPart}
use Rattle.ioam_run_part.specs.Stored.{AnswersWrites, HoldsFrontOf, Stores, answer_of}
use Rattle.ioam_run_part.specs.Two.{AnswersTwo}
use Rattle.ioam_run_part.specs.Unread.{AnswersReads, IsHeld, ReadsFile, TriesFile}
use Rattle.ioam_run_part.specs.Unread as unread_file
use Rattle.ioam_run_part.specs.declared.unread.Unread.{Unread}
use Rattle.ioam_run_part.specs.declared.unread.Unread.TheVariants as unread
use Rattle.ioam_run_part.proofs.FileLaws.{tries_none}
use Rattle.ioam_run_part.proofs.FailuresLaws.{read_failed, written_answered}
use Rattle.ioam_run_part.proofs.MergeLaws.{some_held, none_asked_out}
use Rattle.ioam_run_part.proofs.PartsAskedLaws.{parts_asked}

module _ (desks : Desks) (files : PartsNames) where
  abbrev Cause : Outcome → Type 0
  Cause = PartsCause desks.tells (part_held desks files) files.part files.report desks.old_in desks.new_in desks.old desks.new

  abbrev Leaves : Outcome → Type 0
  Leaves = PartsLeaves (part_held desks files) files.report desks.old desks.new

  abbrev Opens : Outcome → Type 0
  Opens answer = (at : ℕ) (fault : PartFault) → answer ≡ outcome.Part files.part at fault → desks.new_in.side.asked ≡ desks.old_in.side.asked ++ files.part ∷ []

  exact : (answer : Outcome) → Cause answer → (asked : Outcome) → IsTrue desks.tells → PartsAsked desks.tells (part_held desks files) files.part files.report asked
      → (Rose desks.old_in.side.faults desks.new_in.side.faults → ⊥) → (Rose desks.old.side.faults desks.new.side.faults → ⊥)
      → (answer ≡ asked) ⊎ (answer ≡ outcome.NoMemory)
  exact answer cause asked told asks reads writes =
      parts_asked desks.tells (part_held desks files) files.part files.report told desks.old_in desks.new_in desks.old desks.new answer asked cause asks reads writes

  -- ---- nothing was written

  module _ (same : desks.new ≡ desks.old) where
    unwritten : (answer : Outcome) → Cause answer → Leaves answer → Opens answer → (IsDone answer → ⊥) → (OpensNothing answer → desks.new_in ≡ desks.old_in)
        → (desks.new_in ≡ desks.old_in) ⊎ (files.part ≢ files.report) → TriesFile desks.tells (part_held desks files) files.part desks.old_in desks.new_in
        → AnswersTwo desks.old_in desks.new_in answer → PartsKeeps desks files answer
    unwritten answer cause leaves opens not_done unopened differed tries answers = record {
      cause = cause;
      leaves = λ told. leaves;
      exact = exact answer cause;
      asked_in = tries.asked;
      asked_out = none_asked_out desks.old desks.new files.report same;
      all_in = λ done. absurd (not_done done);
      all_out = λ done. absurd (not_done done);
      opened = opens;
      unopened = unopened;
      differed = differed;
      no_output = λ none. same;
      no_report = λ before. same;
      drained = λ done told. absurd (not_done done);
      few = tries.few;
      failures = record {
        opens = λ other. (answers other).0;
        reads = λ settled. (answers (λ is. subst IsSettled is settled)).1;
        writes = λ other. ap (λ (w : Writing). w.side.faults) same;
      };
      read_failed = λ other. (answers other).1;
      kept_in = tries.kept;
      kept_out = λ told. KeepsOutputs-same desks.old desks.new same;
    }

    -- memory ran out
    wanting : (desks.new_in ≡ desks.old_in) ⊎ (files.part ≢ files.report) → TriesFile desks.tells (part_held desks files) files.part desks.old_in desks.new_in
        → AnswersTwo desks.old_in desks.new_in outcome.NoMemory → PartsKeeps desks files outcome.NoMemory
    wanting differed tries answers =
        unwritten outcome.NoMemory tt (inl same) (λ at fault is. absurd (subst OpensNoPart (sym is) tt)) (λ none. none) (λ none. absurd none) differed tries answers

    -- the names are equal
    pub keeps_names : desks.new_in ≡ desks.old_in → (answer : Outcome) (name : List ℕ) → files.part ≡ files.report → name ≡ files.report
        → (answer ≡ outcome.Names name) ⊎ (answer ≡ outcome.NoMemory) → PartsKeeps desks files answer
    keeps_names same_in answer name equal is either =
        let P : Outcome → Type 0 = λ o. PartsKeeps desks files o in
        let tries = tries_none desks.tells (part_held desks files) files.part desks.old_in desks.new_in same_in in
        let slots = HaveSlots-still desks.old_in.side desks.new_in.side (ap (λ (r : desk.Reading). r.side) same_in) in
        let faults = ap (λ (r : desk.Reading). r.side.faults) same_in in
        ⊎_elim
        (λ named. subst P (sym named) (unwritten (outcome.Names name) (equal, is) same (λ at fault is'. absurd (subst OpensNothing is' tt)) (λ none. none) (λ none. same_in) (inl same_in) tries (λ other. (slots, faults))))
        (λ none. subst P (sym none) (wanting (inl same_in) tries (λ other. (slots, faults)))) either

    -- PART wasn't read
    module _ (apart : files.part ≢ files.report) where
      abbrev Reads : Result Collected Unread → Type 0
      Reads r = ReadsFile (IsHeld desks.tells (part_held desks files)) desks.tells (part_held desks files) files.part desks.old_in desks.new_in r

      unread_keeps : (why : Unread) → Reads (Err why) → TriesFile desks.tells (part_held desks files) files.part desks.old_in desks.new_in
          → AnswersTwo desks.old_in desks.new_in (unread_file.answer_of files.part why) → PartsKeeps desks files (unread_file.answer_of files.part why)
      unread_keeps (unread.Fault at fault) reads tries answers =
          unwritten (outcome.Part files.part at fault) (apart, refl, reads.1) same (λ at' fault' is. ap (λ (s : Side). s.asked) reads.0) (λ none. none) (λ none. absurd none) (inr apart) tries answers
      unread_keeps unread.Failed reads tries answers = unwritten outcome.ReadFault reads.0 same (λ at fault is. reads.1) (λ none. none) (λ none. absurd none) (inr apart) tries answers
      unread_keeps unread.NoMemory reads tries answers = wanting (inr apart) tries answers

      pub keeps_unread : (answer : Outcome) (why : Unread) → Reads (Err why) → TriesFile desks.tells (part_held desks files) files.part desks.old_in desks.new_in
          → (answer ≡ unread_file.answer_of files.part why) ⊎ (answer ≡ outcome.NoMemory) → (why ≡ unread.Failed → answer ≡ outcome.ReadFault)
          → AnswersReads {A = Collected} desks.old_in desks.new_in (Err why) → PartsKeeps desks files answer
      keeps_unread answer why reads tries either failed answers =
          let P : Outcome → Type 0 = λ o. PartsKeeps desks files o in
          let other : AnswersTwo desks.old_in desks.new_in answer = read_failed desks.old_in desks.new_in why answer failed answers in
          ⊎_elim (λ is. subst P (sym is) (unread_keeps why reads tries (λ apart. other (λ it. apart (sym is ∙ it)))))
          (λ none. subst P (sym none) (wanting (inr apart) tries (λ apart. other (λ it. apart (sym none ∙ it))))) either

  -- ---- PART was read, and its lines were written, or a front of them

  module _ (apart : files.part ≢ files.report) (c : Collected) (reads : ReadsFile (IsHeld desks.tells (part_held desks files)) desks.tells (part_held desks files) files.part desks.old_in desks.new_in (Ok c)) where
    abbrev Put : Result (Unit {0}) DeskFault → Type 0
    Put r = Stores desks.tells files.report (part_lines reads.1.records) desks.old desks.new r

    of_part : (P : List ℕ → Type 0) → IsTrue desks.tells → P reads.1.octets → IsSomeAnd (part_held desks files) P
    of_part P told held = some_held (part_held desks files) reads.1.octets P (reads.1.is told) held

    front : IsTrue desks.tells → (desks.old.side.slots < desks.new.side.slots → HoldsFrontOf desks.new files.report (part_lines reads.1.records))
        → IsSomeAnd (part_held desks files) (HoldsLinesFront desks.old desks.new files.report)
    front told held = of_part (HoldsLinesFront desks.old desks.new files.report) told (record { records = reads.1.records; part = reads.1.part; held = held })

    stored_cause : (r : Result (Unit {0}) DeskFault) → Put r → Cause (answer_of r)
    stored_cause (Ok done) stores = (apart, λ told. of_part IsAPart told (reads.1.records, reads.1.part))
    stored_cause (Err Failed) stores = stores.0
    stored_cause (Err NoMemory) stores = tt

    stored_leaves : IsTrue desks.tells → (r : Result (Unit {0}) DeskFault) → Put r → Leaves (answer_of r)
    stored_leaves told (Ok done) stores = of_part (HoldsLines desks.new files.report) told (record { records = reads.1.records; part = reads.1.part; held = stores.1 told })
    stored_leaves told (Err Failed) stores = front told (stores.1 told)
    stored_leaves told (Err NoMemory) stores = inr (front told (stores told))

    stored_out : (r : Result (Unit {0}) DeskFault) → Put r → IsDone (answer_of r) → desks.new.side.asked ≡ desks.old.side.asked ++ files.report ∷ []
    stored_out (Ok done) stores is = stores.0
    stored_out (Err Failed) stores is = absurd is
    stored_out (Err NoMemory) stores is = absurd is

    stored_before : (r : Result (Unit {0}) DeskFault) → OpensNoPart (answer_of r) → ⊥
    stored_before (Ok done) before = before
    stored_before (Err Failed) before = before
    stored_before (Err NoMemory) before = before

    stored_opens : (r : Result (Unit {0}) DeskFault) → OpensNothing (answer_of r) → ⊥
    stored_opens (Ok done) none = none
    stored_opens (Err Failed) none = none
    stored_opens (Err NoMemory) none = none

    part_asked : desks.new_in.side.asked ≡ desks.old_in.side.asked ++ files.part ∷ []
    part_asked = ap (λ (s : Side). s.asked) reads.0

    pub keeps_stored : (r : Result (Unit {0}) DeskFault) → Put r → AsksFront desks.old.side.asked desks.new.side.asked (files.report ∷ [])
        → TriesFile desks.tells (part_held desks files) files.part desks.old_in desks.new_in → (IsTrue desks.tells → KeepsOutputs desks.old desks.new)
        → AnswersWrites desks.old desks.new r → PartsKeeps desks files (answer_of r)
    keeps_stored r stores asked tries kept failed =
        let cause = stored_cause r stores in
        record {
          cause = cause;
          leaves = λ told. stored_leaves told r stores;
          exact = exact (answer_of r) cause;
          asked_in = tries.asked;
          asked_out = asked;
          all_in = λ done. part_asked;
          all_out = stored_out r stores;
          opened = λ at fault is. part_asked;
          unopened = λ none. absurd (stored_opens r none);
          differed = inr apart;
          no_output = λ none. (let slots : desks.new_in.side.slots ≡ desks.old_in.side.slots + 1 = ap (λ (s : Side). s.slots) reads.0 in absurd (omega (arith, slots, none)));
          no_report = λ before. absurd (stored_before r before);
          drained = λ done told. reads.2 told;
          few = tries.few;
          failures = record {
            opens = λ other. HaveSlots-one desks.old_in.side desks.new_in.side files.part reads.0;
            reads = λ settled. ap (λ (s : Side). s.faults) reads.0;
            writes = written_answered desks.old desks.new r (answer_of r) refl failed;
          };
          read_failed = λ other. ap (λ (s : Side). s.faults) reads.0;
          kept_in = tries.kept;
          kept_out = kept;
        }
