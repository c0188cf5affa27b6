-- What a run over no input and REPORT keeps.
use Rattle.std.proofs.Common.{◌≡◌, ◌≢◌, ℕ, ◌⊎◌, Bool, IsTrue, List, [], ◌∷◌, ◌++◌, refl, sym, ap, subst, inl, inr, append-nil, arith}
use Rattle.ioam_desk.specs.Desk.{Reading, Writing, Rose}
use Rattle.ioam_desk.specs.Touches.{State, Touches, opening}
use Rattle.ioam_desk.proofs.KeptLaws.{KeepsOutputs-same}
use Rattle.ioam_desk.proofs.TouchesLaws.{touches-kept_out}
use Rattle.ioam_desk_outputs.specs.Held.{HoldFronts, HoldTexts}
use Rattle.ioam_run_answer.specs.Bounds.{answered}
use Rattle.ioam_run_answer.specs.Desks.{around}
use Rattle.ioam_run_answer.specs.Failures.{AnswersFailures}
use Rattle.ioam_run_answer.specs.Outcomes.{IsDone}
use Rattle.ioam_run_answer.specs.declared.outcome.Outcome.TheVariants as outcome
use Rattle.ioam_run_bulk.specs.Promise.{HasCause, HoldsFront, IsReport, Keeps, Leaves, MayReport}
use Rattle.ioam_run_bulk.specs.Stage.{SaysOne}
use Rattle.ioam_stream.specs.Stage.{How, Ended}
use Rattle.ioam_stream.specs.Frame.{Frame, HoldSome, Leaves as LeavesAll, failing_all}
use Rattle.ioam_stream.specs.Streams.{ReadsNone}
use Rattle.ioam_stream.specs.declared.reading.Stop.{Stop}
use Rattle.ioam_stream.specs.declared.reading.Stop.TheVariants as stop

module _ (tells : Bool) (seed count : ℕ) (report : List ℕ) where
  unopened : (old new : Writing) → new ≡ old → HoldsFront seed count report old new
  unopened old new same = ([], inl refl, (λ more. absurd (omega (arith, more, ap (λ (w : Writing). w.side.slots) same)), tt))

  -- nothing was opened, and memory ran out
  pub keeps_none : (reads : Reading) (writes : Writing) → Keeps (around tells reads reads writes writes) seed count report outcome.NoMemory
  keeps_none reads writes = record {
    cause = tt;
    leaves = λ told. unopened writes writes refl;
    exact = λ none. inr refl;
    asked_out = (0, sym (append-nil writes.side.asked));
    all_out = λ done. absurd done;
    inputs = refl;
    failures = record { opens = λ other. refl; reads = λ settled. refl; writes = λ other. refl };
    kept_out = λ told. KeepsOutputs-same writes writes refl;
  }

  module _ (old new : State) where
    -- whole texts and those of some first arrivals
    module _ (Texts : How → List (List ℕ) → Type 0) (whole : (so : List (List ℕ)) → Texts Ended so → SaysOne (IsReport seed count) so) where
      abbrev TextsOf : How → (ℕ → List ℕ) → List (List ℕ) → Type 0
      TextsOf how contents = Texts how

      abbrev FirstsOf : (ℕ → List ℕ) → List (List ℕ) → Type 0
      FirstsOf contents = SaysOne (MayReport seed count)

      some_held : HoldSome tells [] (report ∷ []) old new TextsOf FirstsOf → HoldsFront seed count report old.outputs new.outputs
      some_held some = (
        some.texts.0,
        some.texts.1,
        subst (λ (so : List (List ℕ)). HoldFronts old.outputs new.outputs 0 (report ∷ []) so) some.texts.2 some.held,
      )

      leaves_ran : (answer : Stop) → answer ≢ stop.ReadFault → LeavesAll tells [] (report ∷ []) old new TextsOf FirstsOf answer
          → Leaves seed count report old.outputs new.outputs (answered answer outcome.Done)
      leaves_ran stop.Ended read leaves =
          let says = whole leaves.1.so leaves.1.texts in
          (says.0, says.1, (subst (λ (so : List (List ℕ)). HoldTexts new.outputs (report ∷ []) so) says.2 leaves.1.held).0)
      leaves_ran stop.ReadFault read leaves = absurd (read refl)
      leaves_ran stop.WriteFault read leaves = some_held leaves.1
      leaves_ran stop.NoMemory read (inl same) = unopened old.outputs new.outputs same
      leaves_ran stop.NoMemory read (inr some) = some_held some.1

    cause_ran : (answer : Stop) → answer ≢ stop.ReadFault → Touches tells (opening [] (report ∷ [])) (failing_all answer) old new
        → HasCause old.outputs new.outputs (answered answer outcome.Done)
    cause_ran stop.Ended read t = tt
    cause_ran stop.ReadFault read t = absurd (read refl)
    cause_ran stop.WriteFault read t = t.outputs.how.rose
    cause_ran stop.NoMemory read t = tt

    exact_ran : (answer : Stop) → answer ≢ stop.ReadFault → Touches tells (opening [] (report ∷ [])) (failing_all answer) old new
        → (Rose old.outputs.side.faults new.outputs.side.faults → ⊥) → (answered answer outcome.Done ≡ outcome.Done) ⊎ (answered answer outcome.Done ≡ outcome.NoMemory)
    exact_ran stop.Ended read t none = inl refl
    exact_ran stop.ReadFault read t none = absurd (read refl)
    exact_ran stop.WriteFault read t none = absurd (none t.outputs.how.rose)
    exact_ran stop.NoMemory read t none = inr refl

    all_ran : (drains : Type 0) (answer : Stop) → Frame tells [] (report ∷ []) old new drains answer → IsDone (answered answer outcome.Done)
        → new.outputs.side.asked ≡ old.outputs.side.asked ++ report ∷ []
    all_ran drains stop.Ended frame done = (frame.all refl).1
    all_ran drains stop.ReadFault frame done = absurd done
    all_ran drains stop.WriteFault frame done = absurd done
    all_ran drains stop.NoMemory frame done = absurd done

    failures_ran : (answer : Stop) → Touches tells (opening [] (report ∷ [])) (failing_all answer) old new
        → AnswersFailures (around tells old.inputs new.inputs old.outputs new.outputs) (answered answer outcome.Done)
    failures_ran stop.Ended t = record { opens = λ other. t.inputs.how.slots; reads = λ settled. t.inputs.how.faults; writes = λ other. t.outputs.how.faults }
    failures_ran stop.ReadFault t = record { opens = λ other. absurd (other refl); reads = λ settled. absurd settled; writes = λ other. t.outputs.how.faults }
    failures_ran stop.WriteFault t = record { opens = λ other. t.inputs.how.slots; reads = λ settled. absurd settled; writes = λ other. absurd (other refl) }
    failures_ran stop.NoMemory t = record { opens = λ other. t.inputs.how.slots; reads = λ settled. absurd settled; writes = λ other. t.outputs.how.faults }

    pub keeps_ran : (Texts : How → List (List ℕ) → Type 0) → ((so : List (List ℕ)) → Texts Ended so → SaysOne (IsReport seed count) so)
        → (drains : Type 0) (answer : Stop) → Frame tells [] (report ∷ []) old new drains answer
        → (IsTrue tells → LeavesAll tells [] (report ∷ []) old new (λ how contents. Texts how) (λ contents. SaysOne (MayReport seed count)) answer)
        → ReadsNone old.inputs new.inputs answer
        → Keeps (around tells old.inputs new.inputs old.outputs new.outputs) seed count report (answered answer outcome.Done)
    keeps_ran Texts whole drains answer frame leaves none = record {
      cause = cause_ran answer none.1 frame.touches;
      leaves = λ told. leaves_ran Texts whole answer none.1 (leaves told);
      exact = exact_ran answer none.1 frame.touches;
      asked_out = frame.asked_out;
      all_out = all_ran drains answer frame;
      inputs = none.0;
      failures = failures_ran answer frame.touches;
      kept_out = λ told. touches-kept_out tells [] (report ∷ []) (failing_all answer) old new told frame.touches;
    }
