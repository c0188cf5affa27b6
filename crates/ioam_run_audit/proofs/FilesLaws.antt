-- What a run over both captures comes to.
use Rattle.std.proofs.Common.{◌≡◌, ℕ, zero, suc, ◌+◌, ◌<◌, ◌≤◌, ◌⊎◌, Bool, IsTrue, List, [], ◌∷◌, ◌++◌, length, Some, refl, sym, ap, ◌∙◌, subst, inl, inr, arith, append-nil, length-append}
use Rattle.ioam_base.specs.Octets.{IsFront}
use Rattle.ioam_desk.specs.Desk.{holds}
use Rattle.ioam_desk.specs.Touches.{State, Touches, opening}
use Rattle.ioam_desk.proofs.TouchesLaws.{touches-kept_in, touches-kept_out}
use Rattle.ioam_desk_outputs.specs.Told.{said_more}
use Rattle.ioam_run_answer.specs.Bounds.{answered}
use Rattle.ioam_run_answer.specs.Desks.{around}
use Rattle.ioam_run_answer.specs.Failures.{AnswersFailures}
use Rattle.ioam_run_answer.specs.Outcomes.{IsBehindAll}
use Rattle.ioam_run_answer.specs.declared.outcome.Outcome.{Outcome}
use Rattle.ioam_run_answer.specs.declared.outcome.Outcome.TheVariants as outcome
use Rattle.ioam_stream.specs.Stage.{Seen, Covers}
use Rattle.ioam_stream.specs.Frame.{Frame, HoldLess, Leaves, Marked, Unsealed, contents, failing_all}
use Rattle.ioam_stream.specs.declared.reading.Stop.{Stop}
use Rattle.ioam_stream.specs.declared.reading.Stop.TheVariants as stop
use Rattle.ioam_run_audit.specs.Comparing.{AreFirsts, AreTexts, IsPart as IsPartOf, IsSealed, kind, place_of, sums_in}
use Rattle.ioam_run_audit.specs.Ends.{Finishes, Parts, RunsFiles, answer_of, start_of}
use Rattle.ioam_run_audit.specs.Fit.{Place}
use Rattle.ioam_run_audit.specs.declared.comparison.Comparison.{Comparison}
use Rattle.ioam_run_audit.specs.declared.comparison.Phase.{Phase}
use Rattle.ioam_run_audit.specs.declared.cursor.End.TheVariants as end
use Rattle.ioam_run_audit.proofs.RanLaws.{both_over, parts_done, parts_sealed, parts_unsealed, sealed_is, written_cut, written_over}

below_or : (a b : ℕ) → (a < b) ⊎ (b ≤ a)
below_or a zero = inr (omega arith)
below_or zero (suc b) = inl (omega arith)
below_or (suc a) (suc b) = elim (below_or a b) [
  | inl less ↦ inl (omega (arith, less))
  | inr more ↦ inr (omega (arith, more))
]

module _ (tells : Bool) (before after report : List ℕ) (place : Place) (old new : State) (begun last : Comparison) (at_place : place_of begun.seat ≡ place) where
  abbrev ins : List (List ℕ)
  ins = before ∷ after ∷ []

  abbrev outs : List (List ℕ)
  outs = report ∷ []

  abbrev octets : ℕ → List ℕ
  octets = contents tells ins outs old new

  -- what the machine says of a run
  pub record Run (answer : Stop) : Type 0 where
    pub frame : Frame tells ins outs old new (kind.drains last) answer
    pub leaves : IsTrue tells → Leaves tells ins outs old new (AreTexts begun last) (AreFirsts begun) answer
    pub sealed : IsTrue tells → Unsealed tells ins outs old new (IsSealed begun) (IsPartOf begun) answer
    pub marks : IsTrue tells → Marked tells ins outs old new (kind.marks last) answer

  abbrev Ends : Outcome → Type 0
  Ends answer = Finishes tells place before after report old.inputs new.inputs old.outputs new.outputs answer

  module _ (answer : Stop) (frame : Frame tells ins outs old new (kind.drains last) answer) (told : IsTrue tells) (opened : old.inputs.side.slots + 2 ≤ new.inputs.side.slots) where
    held_before : holds old.outputs before ≡ Some (octets 0)
    held_before = frame.held told 0 (omega (arith, opened))

    held_after : holds old.outputs after ≡ Some (octets 1)
    held_after = frame.held told 1 (omega (arith, opened))

    less_parts : HoldLess tells ins outs old new (IsSealed begun) (IsPartOf begun) → Parts (start_of old.outputs before after report) place new.outputs
    less_parts less = elim less.2 [
      | inl part ↦ parts_unsealed before after report place old new octets held_before held_after begun at_place part.0.seen part.0.so_far part.0.now part.0.stands part.0.covers
          part.0.now.phase part.0.seen.cut refl refl part.1 less.0 part.0.so_is less.1
      | inr sealed ↦ parts_sealed before after report place old new octets held_before held_after begun at_place sealed.0.0.seen sealed.0.0.so_far sealed.0.0.now sealed.0.0.stands sealed.0.0.covers
          (sealed_is sealed.0.0.now.phase sealed.0.0.seen.cut sealed.0.1).0 (sealed_is sealed.0.0.now.phase sealed.0.0.seen.cut sealed.0.1).1 less.0
          (sealed.0.0.so_is ∙ ap (λ (p : Phase). said_more sealed.0.0.so_far (sums_in p sealed.0.0.now.counts ∷ [])) (sealed_is sealed.0.0.now.phase sealed.0.0.seen.cut sealed.0.1).0) less.1 sealed.1
    ]

  -- it ended
  ended_slots : Frame tells ins outs old new (kind.drains last) stop.Ended → old.inputs.side.slots + 2 ≤ new.inputs.side.slots
  ended_slots frame = omega (arith, frame.touches.inputs.how.slots, ap length (frame.all refl).0, length-append old.inputs.side.asked ins)

  ended_closes : Run stop.Ended → Ends (answer_of before after last.before.end last.after.end)
  ended_closes run = inl (record {
    how = last.before.end;
    last = last.after.end;
    answer_is = refl;
    known = λ told. let texts = (run.leaves told).1.texts in both_over begun texts.seen (run.leaves told).1.so last texts.stands texts.closed texts.holds.0;
    written = λ told.
        let left = (run.leaves told).1 in
        let texts = left.texts in
        let over = both_over begun texts.seen left.so last texts.stands texts.closed texts.holds.0 in
        written_over before after report place old new octets (held_before stop.Ended run.frame told (ended_slots run.frame)) (held_after stop.Ended run.frame told (ended_slots run.frame))
        begun at_place texts.seen left.so last texts.stands texts.holds.1 over.0 over.1 texts.closed left.held;
    drained = λ whole too told. (
      subst (λ (k : ℕ). IsTrue (new.inputs.ended k)) first_slot (run.frame.drained refl (whole, too) told 0 (omega arith)),
      run.frame.drained refl (whole, too) told 1 (omega arith),
    );
  })
    where
      first_slot : old.inputs.side.slots + 0 ≡ old.inputs.side.slots
      first_slot = omega arith

  -- but memory ran out to say so
  ended_lacks : Run stop.Ended → (last.before.end ≡ end.Whole → last.after.end ≡ end.Whole → ⊥) → Ends outcome.NoMemory
  ended_lacks run not_both = inr (inr (inr (inr (record {
    answer_is = refl;
    parts = λ told.
        let left = (run.leaves told).1 in
        let texts = left.texts in
        let over = both_over begun texts.seen left.so last texts.stands texts.closed texts.holds.0 in
        inr (parts_done before after report place old new octets (held_before stop.Ended run.frame told (ended_slots run.frame)) (held_after stop.Ended run.frame told (ended_slots run.frame))
        begun at_place texts.seen left.so last texts.stands texts.holds.1 over.0 over.1 texts.closed not_both left.held);
  }))))

  -- a read failed
  read_cuts : Run stop.ReadFault → Ends outcome.ReadFault
  read_cuts run = elim (below_or new.inputs.side.slots (old.inputs.side.slots + 2)) [
    | inl less ↦ inr (inr (inl (record { answer_is = refl; rose = run.frame.touches.inputs.how.rose; few = less; same = run.frame.no_output less })))
    | inr opened ↦ inr (inl (record {
      answer_is = refl;
      rose = run.frame.touches.inputs.how.rose;
      opened = opened;
      written = λ told. elim (run.leaves told) [
        | inl none ↦ absurd (omega (arith, none.0, opened))
        | inr left ↦
            let handed = left.1 in
            let texts = handed.hold.texts in
            let marks = run.marks told refl opened in
            let split_before : octets 0 ≡ texts.seen.fed 0 ++ new.inputs.left old.inputs.side.slots =
            handed.splits 0 (omega arith) ∙ ap (λ (xs : List ℕ). xs ++ new.inputs.left (old.inputs.side.slots + 0)) (sym (texts.holds.1 0))
            ∙ ap (λ (k : ℕ). texts.seen.fed 0 ++ new.inputs.left k) first_slot in
            let split_after : octets 1 ≡ texts.seen.fed 1 ++ new.inputs.left (old.inputs.side.slots + 1) =
            handed.splits 1 (omega arith) ∙ ap (λ (xs : List ℕ). xs ++ new.inputs.left (old.inputs.side.slots + 1)) (sym (texts.holds.1 1)) in
            written_cut before after report place old new octets (held_before stop.ReadFault run.frame told opened) (held_after stop.ReadFault run.frame told opened)
            begun at_place texts.seen handed.hold.so last texts.stands
            (covers_of texts.seen split_before split_after
            (λ done. ap new.inputs.left (sym first_slot) ∙ marks.3 0 (omega arith) (subst (λ (b : Bool). IsTrue b) (texts.stands.core.before.ended_is ∙ sym marks.1.0) done))
            (λ done. marks.3 1 (omega arith) (subst (λ (b : Bool). IsTrue b) (texts.stands.core.after.ended_is ∙ sym marks.1.1) done)))
            (new.inputs.left old.inputs.side.slots) (new.inputs.left (old.inputs.side.slots + 1)) (new.inputs.ended (old.inputs.side.slots + 1)) split_before split_after
            (sym marks.1.1 ∙ sym (marks.2 1 (omega arith))) texts.closed texts.holds.0 handed.hold.held
      ];
    }))
  ]
    where
      first_slot : old.inputs.side.slots + 0 ≡ old.inputs.side.slots
      first_slot = omega arith

      covers_of : (seen : Seen) → octets 0 ≡ seen.fed 0 ++ new.inputs.left old.inputs.side.slots → octets 1 ≡ seen.fed 1 ++ new.inputs.left (old.inputs.side.slots + 1)
          → (IsTrue (seen.ended 0) → new.inputs.left old.inputs.side.slots ≡ []) → (IsTrue (seen.ended 1) → new.inputs.left (old.inputs.side.slots + 1) ≡ []) → Covers 2 seen octets
      covers_of seen first second none_before none_after = record { front = front; whole = whole }
        where
          front : (i : ℕ) → i < 2 → IsFront (seen.fed i) (octets i)
          front zero inside = record { rest = new.inputs.left old.inputs.side.slots; is = first }
          front (suc zero) inside = record { rest = new.inputs.left (old.inputs.side.slots + 1); is = second }
          front (suc (suc i)) inside = absurd (omega (arith, inside))

          whole : (i : ℕ) → i < 2 → IsTrue (seen.ended i) → octets i ≡ seen.fed i
          whole zero inside done = first ∙ ap (λ (xs : List ℕ). seen.fed 0 ++ xs) (none_before done) ∙ append-nil (seen.fed 0)
          whole (suc zero) inside done = second ∙ ap (λ (xs : List ℕ). seen.fed 1 ++ xs) (none_after done) ∙ append-nil (seen.fed 1)
          whole (suc (suc i)) inside done = absurd (omega (arith, inside))

  write_sticks : Run stop.WriteFault → Ends outcome.WriteFault
  write_sticks run = inr (inr (inr (inl (record {
    answer_is = refl;
    rose = run.frame.touches.outputs.how.rose;
    parts = λ told. less_parts stop.WriteFault run.frame told (run.leaves told).0 (run.sealed told);
  }))))

  memory_lacks : Run stop.NoMemory → Ends outcome.NoMemory
  memory_lacks run = inr (inr (inr (inr (record {
    answer_is = refl;
    parts = λ told. elim (run.sealed told) [
      | inl same ↦ inl same
      | inr less ↦ elim (run.leaves told) [
        | inl same ↦ inl same
        | inr some ↦ inr (less_parts stop.NoMemory run.frame told some.0 less)
      ]
    ];
  }))))

  ends_of : (answer : Stop) → Run answer → Ends (answered answer (answer_of before after last.before.end last.after.end))
  ends_of stop.Ended run = ended_closes run
  ends_of stop.ReadFault run = read_cuts run
  ends_of stop.WriteFault run = write_sticks run
  ends_of stop.NoMemory run = memory_lacks run

  all_of : (answer : Stop) (ended : Outcome) → Run answer → IsBehindAll ⊥ (answered answer ended)
      → (new.inputs.side.asked ≡ old.inputs.side.asked ++ ins) × (new.outputs.side.asked ≡ old.outputs.side.asked ++ outs)
  all_of stop.Ended ended run behind = run.frame.all refl
  all_of stop.ReadFault ended run behind = absurd behind
  all_of stop.WriteFault ended run behind = absurd behind
  all_of stop.NoMemory ended run behind = absurd behind

  -- whatever is answered
  runs_by : (stopped : Stop) → Run stopped → (answer : Outcome) → Ends answer
      → (IsBehindAll ⊥ answer → (new.inputs.side.asked ≡ old.inputs.side.asked ++ ins) × (new.outputs.side.asked ≡ old.outputs.side.asked ++ outs))
      → RunsFiles tells place before after report old.inputs new.inputs old.outputs new.outputs answer
  runs_by stopped run answer ends all = record {
    ends = ends;
    asked_in = run.frame.asked_in;
    asked_out = run.frame.asked_out;
    all = all;
    no_output = run.frame.no_output;
    unread = λ told none. (
      λ opened. run.frame.unread (omega (arith, none)) told 0 (omega (arith, opened)) ∙ ap (λ (k : ℕ). Some (new.inputs.left k)) first_slot,
      λ opened. run.frame.unread (omega (arith, none)) told 1 (omega (arith, opened)),
    );
    kept_in = touches-kept_in tells ins outs (failing_all stopped) old new run.frame.touches;
    kept_out = λ told. touches-kept_out tells ins outs (failing_all stopped) old new told run.frame.touches;
  }
    where
      first_slot : old.inputs.side.slots + 0 ≡ old.inputs.side.slots
      first_slot = omega arith

  -- a call that failed is answered
  failures_of : (answer : Stop) (ended : Outcome) → Touches tells (opening ins outs) (failing_all answer) old new
      → AnswersFailures (around tells old.inputs new.inputs old.outputs new.outputs) (answered answer ended)
  failures_of stop.Ended ended t = record { opens = λ other. t.inputs.how.slots; reads = λ settled. t.inputs.how.faults; writes = λ other. t.outputs.how.faults }
  failures_of stop.ReadFault ended t = record { opens = λ other. absurd (other refl); reads = λ settled. absurd settled; writes = λ other. t.outputs.how.faults }
  failures_of stop.WriteFault ended t = record { opens = λ other. t.inputs.how.slots; reads = λ settled. absurd settled; writes = λ other. absurd (other refl) }
  failures_of stop.NoMemory ended t = record { opens = λ other. t.inputs.how.slots; reads = λ settled. absurd settled; writes = λ other. t.outputs.how.faults }

  abbrev Both : Outcome → Type 0
  Both answer = RunsFiles tells place before after report old.inputs new.inputs old.outputs new.outputs answer
      × AnswersFailures (around tells old.inputs new.inputs old.outputs new.outputs) answer

  pub files_ran : (stopped : Stop) (answer : Outcome) → Run stopped
      → (answer ≡ answered stopped (answer_of before after last.before.end last.after.end)) ⊎ ((stopped ≡ stop.Ended) × (answer ≡ outcome.NoMemory))
      → (stopped ≡ stop.Ended → last.before.end ≡ end.Whole → last.after.end ≡ end.Whole → answer ≡ outcome.Done) → Both answer
  files_ran stopped answer run (inl is) done = subst Both (sym is) (
    runs_by stopped run (answered stopped its) (ends_of stopped run) (all_of stopped its run),
    failures_of stopped its run.frame.touches,
  )
    where
      its : Outcome
      its = answer_of before after last.before.end last.after.end
  files_ran stopped answer run (inr lacks) done =
      let ended : Run stop.Ended = subst Run lacks.0 run in
      subst Both (sym lacks.1) (
        runs_by stop.Ended ended outcome.NoMemory
            (ended_lacks ended (λ whole too. not_done (sym lacks.1 ∙ done lacks.0 whole too))) (λ behind. absurd behind),
        failures_of stop.Ended outcome.NoMemory ended.frame.touches,
      )
    where
      not_done : outcome.NoMemory ≡ outcome.Done → ⊥
      not_done same = cc

-- by the names that were given
pub files_named : (tells : Bool) (before after report : List ℕ) (place : Place) (old new : State) (begun last : Comparison) → place_of begun.seat ≡ place
    → (its_ins its_outs : List (List ℕ)) (first second : List ℕ) (stopped : Stop) (answer : Outcome) → Frame tells its_ins its_outs old new (kind.drains last) stopped
    → (IsTrue tells → Leaves tells its_ins its_outs old new (kind.texts begun last) (kind.firsts begun) stopped)
    → (IsTrue tells → Unsealed tells its_ins its_outs old new (kind.sealed begun) (kind.parts begun) stopped)
    → (IsTrue tells → Marked tells its_ins its_outs old new (kind.marks last) stopped)
    → (answer ≡ answered stopped (answer_of first second last.before.end last.after.end)) ⊎ ((stopped ≡ stop.Ended) × (answer ≡ outcome.NoMemory))
    → (stopped ≡ stop.Ended → last.before.end ≡ end.Whole → last.after.end ≡ end.Whole → answer ≡ outcome.Done)
    → its_ins ≡ before ∷ after ∷ [] → its_outs ≡ report ∷ [] → first ≡ before → second ≡ after
    → RunsFiles tells place before after report old.inputs new.inputs old.outputs new.outputs answer
    × AnswersFailures (around tells old.inputs new.inputs old.outputs new.outputs) answer
files_named tells before after report place old new begun last at_place its_ins its_outs first second stopped answer frame leaves sealed marks said done is_ins is_outs is_first is_second =
    files_ran tells before after report place old new begun last at_place stopped answer run its_said done
  where
    All : List (List ℕ) → List (List ℕ) → Type 0
    All xs ys = Frame tells xs ys old new (kind.drains last) stopped × (IsTrue tells → Leaves tells xs ys old new (kind.texts begun last) (kind.firsts begun) stopped)
        × (IsTrue tells → Unsealed tells xs ys old new (kind.sealed begun) (kind.parts begun) stopped) × (IsTrue tells → Marked tells xs ys old new (kind.marks last) stopped)

    all : All (before ∷ after ∷ []) (report ∷ [])
    all = subst (λ (ys : List (List ℕ)). All (before ∷ after ∷ []) ys) is_outs (subst (λ (xs : List (List ℕ)). All xs its_outs) is_ins (frame, leaves, sealed, marks))

    run : Run tells before after report place old new begun last at_place stopped
    run = record { frame = all.0; leaves = all.1; sealed = all.2; marks = all.3 }

    its_said : (answer ≡ answered stopped (answer_of before after last.before.end last.after.end)) ⊎ ((stopped ≡ stop.Ended) × (answer ≡ outcome.NoMemory))
    its_said = elim said [
      | inl is ↦ inl (is ∙ ap (λ (b : List ℕ). answered stopped (answer_of b second last.before.end last.after.end)) is_first
          ∙ ap (λ (a : List ℕ). answered stopped (answer_of before a last.before.end last.after.end)) is_second)
      | inr lacks ↦ inr lacks
    ]
