-- How a run of `merge` ends whose names differ.
use Rattle.std.proofs.Common.{◌≡◌, ◌≢◌, ℕ, ◌+◌, ◌⊎◌, IsTrue, IsSomeAnd, List, [], ◌∷◌, ◌++◌, length, length-append, Option, Some, refl, sym, ap, ◌∙◌, subst, inl, inr, ⊎_elim, arith, append-nil, append_assoc}
use Rattle.ioam_desk.specs.Asked.{AsksFront, HaveSlots}
use Rattle.ioam_desk.specs.Desk as desk
use Rattle.ioam_desk.specs.Desk.{Side, Writing, Rose, opened_side}
use Rattle.ioam_desk.specs.Kept.{KeepsOutputs}
use Rattle.ioam_desk.proofs.AskedLaws.{HaveSlots-one, HaveSlots-still, HaveSlots-then}
use Rattle.ioam_desk.proofs.KeptLaws.{KeepsInputs-same, KeepsOutputs-same}
use Rattle.ioam_part.specs.declared.fault.PartFault.{PartFault}
use Rattle.ioam_run_answer.specs.Record.{Record}
use Rattle.ioam_run_answer.specs.Desks.{Desks}
use Rattle.ioam_run_answer.specs.Outcomes.{IsDone, IsBehindAll, IsSettled, OpensNothing}
use Rattle.ioam_run_answer.specs.declared.outcome.Outcome.{Outcome}
use Rattle.ioam_run_answer.specs.declared.outcome.Outcome.TheVariants as outcome
use Rattle.ioam_run_part.specs.Files.{MergeNames, AreApart, IsRepeat}
use Rattle.ioam_run_part.specs.Joined.{HoldsBoth, HoldsBothFront, WritesJoined}
use Rattle.ioam_run_part.specs.MergePromise.{HoldsMerged, HoldsMergedFront, IsMerged, MergeAsked, MergeCause, MergeKeeps, MergeLeaves, OpensNoPart, one_held, two_held}
use Rattle.ioam_run_part.specs.Records.{HoldBoth, AreParts, IsPartOfAll, KeepFew, KeepMany}
use Rattle.ioam_run_part.specs.Two.{AnswersTwo, TriesTwo, HoldsTwo, OpensUpTo, RefusesTwo}
use Rattle.ioam_run_part.proofs.FileLaws.{none_asked}
use Rattle.ioam_run_part.proofs.JoinedLaws.{merged, union}
use Rattle.ioam_run_part.proofs.MergeAskedLaws.{merge_asked}

pub some_held : (o : Option (List ℕ)) (octets : List ℕ) (P : List ℕ → Type 0) → o ≡ Some octets → P octets → IsSomeAnd o P
some_held o octets P is held = subst (λ u. IsSomeAnd u P) (sym is) held

pub both_held : (o u : Option (List ℕ)) (one two : List ℕ) (P : List ℕ → List ℕ → Type 0) → o ≡ Some one → u ≡ Some two → P one two → HoldBoth o u P
both_held o u one two P first second held = some_held o one (λ a. IsSomeAnd u (P a)) first (some_held u two (P one) second held)

pub none_asked_out : (old new : Writing) (part : List ℕ) → new ≡ old → AsksFront old.side.asked new.side.asked (part ∷ [])
none_asked_out old new part same = (0, ap (λ (w : Writing). w.side.asked) same ∙ sym (append-nil old.side.asked))

module _ (desks : Desks) (files : MergeNames) where
  abbrev Cause : Outcome → Type 0
  Cause = MergeCause desks.tells (one_held desks files) (two_held desks files) files.one files.two files.part desks.old_in desks.new_in desks.old desks.new

  abbrev Leaves : Outcome → Type 0
  Leaves = MergeLeaves (one_held desks files) (two_held desks files) files.part desks.old desks.new

  abbrev Tries : Type 0
  Tries = TriesTwo desks.tells (one_held desks files) (two_held desks files) files.one files.two desks.old_in desks.new_in

  exact : (answer : Outcome) → Cause answer → (asked : Outcome) → IsTrue desks.tells → MergeAsked desks.tells (one_held desks files) (two_held desks files) files.one files.two files.part asked
      → (Rose desks.old_in.side.faults desks.new_in.side.faults → ⊥) → (Rose desks.old.side.faults desks.new.side.faults → ⊥)
      → (answer ≡ asked) ⊎ (answer ≡ outcome.NoMemory)
  exact answer cause asked told asks reads writes =
      merge_asked desks.tells (one_held desks files) (two_held desks files) files.one files.two files.part told desks.old_in desks.new_in desks.old desks.new answer asked cause asks reads writes

  -- ---- nothing was written

  module _ (same : desks.new ≡ desks.old) where
    unwritten : (answer : Outcome) → Cause answer → Leaves answer → (IsBehindAll ⊥ answer → ⊥) → (IsDone answer → ⊥) → (OpensNothing answer → desks.new_in ≡ desks.old_in)
        → ((at : ℕ) (fault : PartFault) → answer ≡ outcome.Part files.one at fault → desks.new_in.side.asked ≡ desks.old_in.side.asked ++ files.one ∷ [])
        → ((at : ℕ) (fault : PartFault) → answer ≡ outcome.Part files.two at fault → desks.new_in.side.asked ≡ desks.old_in.side.asked ++ files.one ∷ files.two ∷ [])
        → (desks.new_in ≡ desks.old_in) ⊎ AreApart files.one files.two files.part → Tries → AnswersTwo desks.old_in desks.new_in answer → MergeKeeps desks files answer
    unwritten answer cause leaves not_behind not_done unopened one_alone both_asked differed tries answers = record {
      cause = cause;
      leaves = λ told. leaves;
      exact = exact answer cause;
      asked_in = tries.asked;
      asked_out = none_asked_out desks.old desks.new files.part same;
      all_in = λ behind. absurd (not_behind behind);
      all_out = λ done. absurd (not_done done);
      in_turn = tries.in_turn;
      one_opened = tries.opened;
      one_alone = one_alone;
      both_asked = both_asked;
      unopened = unopened;
      differed = differed;
      no_output = λ few. same;
      no_part = λ before. same;
      drained = λ done told. absurd (not_done done);
      few_one = tries.few_one;
      few_two = tries.few_two;
      failures = record {
        opens = λ other. (answers other).0;
        reads = λ settled. (answers (λ is. subst IsSettled is settled)).1;
        writes = λ other. ap (λ (w : Writing). w.side.faults) same;
      };
      read_failed = λ other. (answers other).1;
      kept_in = tries.kept;
      kept_out = λ told. KeepsOutputs-same desks.old desks.new same;
    }

    -- two names are equal
    module _ (same_in : desks.new_in ≡ desks.old_in) where
      none_both : desks.new_in.side.asked ≡ desks.old_in.side.asked ++ files.one ∷ files.two ∷ [] → ⊥
      none_both both =
          let none = ap (λ (r : desk.Reading). length r.side.asked) same_in in
          let size = ap length both in
          let more = length-append desks.old_in.side.asked (files.one ∷ files.two ∷ []) in
          omega (arith, none, size, more)

      tries_still : Tries
      tries_still =
          let slots = ap (λ (r : desk.Reading). r.side.slots) same_in in
          record {
            asked = none_asked desks.old_in desks.new_in (files.one ∷ files.two ∷ []) same_in;
            in_turn = λ both told. absurd (none_both both);
            opened = λ both. absurd (none_both both);
            slots = omega (arith, slots);
            kept = KeepsInputs-same desks.old_in desks.new_in same_in;
            few_one = λ more. absurd (omega (arith, slots, more));
            few_two = λ more. absurd (omega (arith, slots, more));
          }

      answers_still : (answer : Outcome) → AnswersTwo desks.old_in desks.new_in answer
      answers_still answer other =
          (HaveSlots-still desks.old_in.side desks.new_in.side (ap (λ (r : desk.Reading). r.side) same_in), ap (λ (r : desk.Reading). r.side.faults) same_in)

      pub keeps_names : (answer : Outcome) (name : List ℕ) → IsRepeat files.one files.two files.part name → (answer ≡ outcome.Names name) ⊎ (answer ≡ outcome.NoMemory) → MergeKeeps desks files answer
      keeps_names answer name repeat either =
          let P : Outcome → Type 0 = λ o. MergeKeeps desks files o in
          ⊎_elim
          (λ named. subst P (sym named) (unwritten (outcome.Names name) repeat same (λ none. none) (λ none. none) (λ none. same_in)
          (λ at fault is. absurd (subst OpensNothing is tt)) (λ at fault is. absurd (subst OpensNothing is tt)) (inl same_in) tries_still (answers_still (outcome.Names name))))
          (λ none. subst P (sym none) (unwritten outcome.NoMemory tt (inl same) (λ none'. none') (λ none'. none') (λ none'. same_in)
          (λ at fault is. absurd (subst OpensNoPart (sym is) tt)) (λ at fault is. absurd (subst OpensNoPart (sym is) tt)) (inl same_in) tries_still (answers_still outcome.NoMemory))) either

    -- one of the two wasn't read
    module _ (apart : AreApart files.one files.two files.part) where
      abbrev Refuses : Outcome → Type 0
      Refuses = RefusesTwo desks.tells (one_held desks files) (two_held desks files) files.one files.two desks.old_in desks.new_in

      refused_cause : (answer : Outcome) → Refuses answer → Cause answer
      refused_cause (outcome.Part name at fault) refuses = (apart, refuses.0)
      refused_cause outcome.ReadFault refuses = refuses
      refused_cause outcome.NoMemory refuses = tt
      refused_cause _ refuses = absurd refuses

      refused_leaves : (answer : Outcome) → Refuses answer → Leaves answer
      refused_leaves (outcome.Part name at fault) refuses = same
      refused_leaves outcome.ReadFault refuses = same
      refused_leaves outcome.NoMemory refuses = inl same
      refused_leaves _ refuses = absurd refuses

      refused_behind : (answer : Outcome) → Refuses answer → IsBehindAll ⊥ answer → ⊥
      refused_behind (outcome.Part name at fault) refuses behind = behind
      refused_behind outcome.ReadFault refuses behind = behind
      refused_behind outcome.NoMemory refuses behind = behind
      refused_behind _ refuses behind = refuses

      refused_done : (answer : Outcome) → Refuses answer → IsDone answer → ⊥
      refused_done (outcome.Part name at fault) refuses done = done
      refused_done outcome.ReadFault refuses done = done
      refused_done outcome.NoMemory refuses done = done
      refused_done _ refuses done = refuses

      refused_opens : (answer : Outcome) → Refuses answer → OpensNothing answer → ⊥
      refused_opens (outcome.Part name at fault) refuses opens = opens
      refused_opens outcome.ReadFault refuses opens = opens
      refused_opens outcome.NoMemory refuses opens = opens
      refused_opens _ refuses opens = refuses

      up_to_one : OpensUpTo files.one files.two desks.old_in desks.new_in files.one → desks.new_in.side.asked ≡ desks.old_in.side.asked ++ files.one ∷ []
      up_to_one opens = ⊎_elim (λ first. first.1) (λ second. absurd (apart.inputs second.0)) opens

      up_to_two : OpensUpTo files.one files.two desks.old_in desks.new_in files.two → desks.new_in.side.asked ≡ desks.old_in.side.asked ++ files.one ∷ files.two ∷ []
      up_to_two opens = ⊎_elim (λ first. absurd (apart.inputs (sym first.0))) (λ second. second.1) opens

      pub keeps_refused : (answer : Outcome) → Refuses answer → Tries → AnswersTwo desks.old_in desks.new_in answer → MergeKeeps desks files answer
      keeps_refused answer refuses tries answers = unwritten answer (refused_cause answer refuses) (refused_leaves answer refuses) (refused_behind answer refuses) (refused_done answer refuses)
          (λ opens. absurd (refused_opens answer refuses opens)) (λ at fault is. up_to_one (subst Refuses is refuses).1) (λ at fault is. up_to_two (subst Refuses is refuses).1) (inr apart) tries answers

  -- ---- both were read

  module _ (apart : AreApart files.one files.two files.part) (a b : List ℕ)
      (holds_two : HoldsTwo desks.tells (one_held desks files) (two_held desks files) files.one files.two desks.old_in desks.new_in a b) where
    abbrev xs : List Record
    xs = holds_two.first_held.records

    abbrev ys : List Record
    ys = holds_two.second_held.records

    abbrev Writes : Outcome → Type 0
    Writes = WritesJoined desks.tells files.part xs ys desks.old desks.new

    hold_both : (P : List ℕ → List ℕ → Type 0) → IsTrue desks.tells → P a b → HoldBoth (one_held desks files) (two_held desks files) P
    hold_both P told held = both_held (one_held desks files) (two_held desks files) a b P (holds_two.first_held.is told) (holds_two.second_held.is told) held

    parts_are : (P : List Record → List Record → Type 0) → P xs ys → AreParts P a b
    parts_are P are = record { firsts = xs; seconds = ys; first = holds_two.first_held.part; second = holds_two.second_held.part; are = are }

    merged_of : (text : List ℕ) → IsPartOfAll (xs ++ ys) text → IsMerged a b text
    merged_of text part = merged a b text xs ys holds_two.first_held.part holds_two.second_held.part part

    merged_whole : IsTrue desks.tells → HoldsBoth desks.tells files.part xs ys desks.old desks.new
        → HoldBoth (one_held desks files) (two_held desks files) (HoldsMerged desks.new files.part)
    merged_whole told held = hold_both (HoldsMerged desks.new files.part) told (record {
      both = held.text;
      merged = merged_of held.text held.part;
      union = union a b held.text (merged_of held.text held.part).joins;
      held = held.held told;
    })

    merged_front : IsTrue desks.tells → HoldsBothFront desks.tells files.part xs ys desks.old desks.new
        → HoldBoth (one_held desks files) (two_held desks files) (HoldsMergedFront desks.old desks.new files.part)
    merged_front told held = hold_both (HoldsMergedFront desks.old desks.new files.part) told (record {
      both = held.text;
      merged = merged_of held.text held.part;
      union = union a b held.text (merged_of held.text held.part).joins;
      held = held.held told;
    })

    joined_cause : (answer : Outcome) → Writes answer → Cause answer
    joined_cause outcome.Done writes = (apart, λ told. hold_both (AreParts KeepFew) told (parts_are KeepFew writes.0))
    joined_cause (outcome.Records limit) writes = (apart, writes.0, λ told. hold_both (AreParts KeepMany) told (parts_are KeepMany writes.1))
    joined_cause outcome.WriteFault writes = writes.0
    joined_cause outcome.NoMemory writes = tt
    joined_cause _ writes = absurd writes

    joined_opens : (answer : Outcome) → Writes answer → OpensNothing answer → ⊥
    joined_opens outcome.Done writes opens = opens
    joined_opens (outcome.Records limit) writes opens = opens
    joined_opens outcome.WriteFault writes opens = opens
    joined_opens outcome.NoMemory writes opens = opens
    joined_opens _ writes opens = writes

    joined_leaves : IsTrue desks.tells → (answer : Outcome) → Writes answer → Leaves answer
    joined_leaves told outcome.Done writes = merged_whole told writes.1
    joined_leaves told (outcome.Records limit) writes = writes.2
    joined_leaves told outcome.WriteFault writes = merged_front told writes.1
    joined_leaves told outcome.NoMemory (inl same) = inl same
    joined_leaves told outcome.NoMemory (inr front) = inr (merged_front told front)
    joined_leaves told _ writes = absurd writes

    joined_out : (answer : Outcome) → Writes answer → IsDone answer → desks.new.side.asked ≡ desks.old.side.asked ++ files.part ∷ []
    joined_out outcome.Done writes done = writes.2
    joined_out _ writes done = absurd done

    joined_no_part : (answer : Outcome) → Writes answer → OpensNoPart answer → desks.new ≡ desks.old
    joined_no_part (outcome.Records limit) writes before = writes.2
    joined_no_part outcome.Done writes before = absurd before
    joined_no_part outcome.WriteFault writes before = absurd before
    joined_no_part outcome.NoMemory writes before = absurd before
    joined_no_part _ writes before = absurd writes

    asked_both : desks.new_in.side.asked ≡ desks.old_in.side.asked ++ files.one ∷ files.two ∷ []
    asked_both = ap (λ (s : Side). s.asked) holds_two.side ∙ append_assoc desks.old_in.side.asked (files.one ∷ []) (files.two ∷ [])

    both_slots : HaveSlots desks.old_in.side desks.new_in.side
    both_slots =
        let mid = opened_side desks.old_in.side files.one in
        HaveSlots-then desks.old_in.side mid desks.new_in.side (HaveSlots-one desks.old_in.side mid files.one refl) (HaveSlots-one mid desks.new_in.side files.two holds_two.side)

    pub keeps_joined : (answer : Outcome) → Writes answer → Tries → AsksFront desks.old.side.asked desks.new.side.asked (files.part ∷ []) → (IsTrue desks.tells → KeepsOutputs desks.old desks.new)
        → (answer ≢ outcome.WriteFault → desks.new.side.faults ≡ desks.old.side.faults) → MergeKeeps desks files answer
    keeps_joined answer writes tries asked kept failed =
        let cause = joined_cause answer writes in
        record {
          cause = cause;
          leaves = λ told. joined_leaves told answer writes;
          exact = exact answer cause;
          asked_in = tries.asked;
          asked_out = asked;
          all_in = λ behind. asked_both;
          all_out = joined_out answer writes;
          in_turn = tries.in_turn;
          one_opened = tries.opened;
          one_alone = λ at fault is. absurd (subst Writes is writes);
          both_asked = λ at fault is. absurd (subst Writes is writes);
          unopened = λ opens. absurd (joined_opens answer writes opens);
          differed = inr apart;
          no_output = λ few. (let slots : desks.new_in.side.slots ≡ desks.old_in.side.slots + 1 + 1 = ap (λ (s : Side). s.slots) holds_two.side in absurd (omega (arith, slots, few)));
          no_part = joined_no_part answer writes;
          drained = λ done told. (holds_two.first_ended told, holds_two.second_ended told);
          few_one = tries.few_one;
          few_two = tries.few_two;
          failures = record { opens = λ other. both_slots; reads = λ settled. ap (λ (s : Side). s.faults) holds_two.side; writes = failed };
          read_failed = λ other. ap (λ (s : Side). s.faults) holds_two.side;
          kept_in = tries.kept;
          kept_out = kept;
        }
