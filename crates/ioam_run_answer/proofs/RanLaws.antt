-- What the frame of a run over one input says, and what the outputs hold, by how the run stopped.
use Rattle.std.proofs.Common.{◌≡◌, ℕ, zero, suc, ◌+◌, ◌<◌, ◌⊎◌, Bool, IsTrue, IsSomeAnd, List, [], ◌∷◌, ◌++◌, Option, Some, None, refl, sym, ap, ◌∙◌, subst, inl, inr, append-nil, arith}
use Rattle.std.specs.Prelude.{Contains}
use Rattle.ioam_desk.specs.Desk.{Reading, Writing, holds}
use Rattle.ioam_desk.specs.Touches.{State, Touches, opening}
use Rattle.ioam_desk.proofs.KeptLaws.{KeepsInputs-same, KeepsOutputs-same}
use Rattle.ioam_desk.proofs.TouchesLaws.{touches-kept_in, touches-kept_out, touches-slots_in}
use Rattle.ioam_desk_outputs.specs.Held.{HoldTexts, HoldFronts}
use Rattle.ioam_desk_outputs.specs.Names.{AreApart, Repeats}
use Rattle.ioam_run_answer.specs.Bounds.{Bounds, answered}
use Rattle.ioam_run_answer.specs.Desks.{around}
use Rattle.ioam_run_answer.specs.Failures.{AnswersFailures}
use Rattle.ioam_run_answer.specs.Outcomes.{IsDone, IsBehindAll, OpensNothing}
use Rattle.ioam_run_answer.specs.declared.outcome.Outcome.{Outcome}
use Rattle.ioam_run_answer.specs.declared.outcome.Outcome.TheVariants as outcome
use Rattle.ioam_stream.specs.Stage.{How, Ended, Handed}
use Rattle.ioam_stream.specs.Frame.{Frame, HoldSome, Leaves, contents, failing_all}
use Rattle.ioam_stream.specs.declared.reading.Stop.{Stop}
use Rattle.ioam_stream.specs.declared.reading.Stop.TheVariants as stop

pub held_map : (o : Option (List ℕ)) (P Q : List ℕ → Type 0) → ((octets : List ℕ) → P octets → Q octets) → IsSomeAnd o P → IsSomeAnd o Q
held_map None P Q f held = absurd held
held_map (Some octets) P Q f held = f octets held

pub held_some : (o : Option (List ℕ)) (octets : List ℕ) (P : List ℕ → Type 0) → o ≡ Some octets → P octets → IsSomeAnd o P
held_some o octets P is holds = subst (λ (p : Option (List ℕ)). IsSomeAnd p P) (sym is) holds

-- one name is apart
pub one_apart : (names : List (List ℕ)) (name : List ℕ) → names ≡ name ∷ [] → AreApart names
one_apart names name one = subst (λ (ns : List (List ℕ)). AreApart ns) (sym one) apart
  where
    none_earlier : Contains [] name → ⊥
    none_earlier there = let below = there.1 in omega (arith, below)

    apart : (at : ℕ) → at < 1 → Repeats (name ∷ []) at → ⊥
    apart zero inside repeats = none_earlier repeats
    apart (suc at) inside repeats = omega (arith, inside)

module _ (tells : Bool) (input : List ℕ) (outs : List (List ℕ)) (Apart : Type 0) (reads : Reading) (writes : Writing) where
  -- nothing was opened
  pub bounds_none : (answer : Outcome) → (IsBehindAll ⊥ answer → ⊥) → (IsDone answer → ⊥) → Bounds (around tells reads reads writes writes) input outs Apart answer
  bounds_none answer behind done = record {
    asked_in = (0, sym (append-nil reads.side.asked));
    asked_out = (0, sym (append-nil writes.side.asked));
    all_in = λ all. absurd (behind all);
    all_out = λ all. absurd (behind all);
    unopened = λ none. refl;
    differed = inl refl;
    no_output = λ same. refl;
    unread = λ told unopened opened. absurd (omega (arith, opened));
    drained = λ is told. absurd (done is);
    failures = record { opens = λ other. refl; reads = λ settled. refl; writes = λ other. refl };
    kept_in = KeepsInputs-same reads reads refl;
    kept_out = λ told. KeepsOutputs-same writes writes refl;
  }

  -- two names are equal
  pub bounds_names : (answer : Outcome) (name : List ℕ) → (answer ≡ outcome.Names name) ⊎ (answer ≡ outcome.NoMemory)
      → Bounds (around tells reads reads writes writes) input outs Apart answer
  bounds_names answer name (inl is) = subst (λ (a : Outcome). Bounds (around tells reads reads writes writes) input outs Apart a) (sym is)
      (bounds_none (outcome.Names name) (λ behind. behind) (λ done. done))
  bounds_names answer name (inr is) = subst (λ (a : Outcome). Bounds (around tells reads reads writes writes) input outs Apart a) (sym is)
      (bounds_none outcome.NoMemory (λ behind. behind) (λ done. done))

module _ (tells : Bool) (input : List ℕ) (outs : List (List ℕ)) (old new : State) (drains : Type 0) where
  abbrev pub Framed : Stop → Type 0
  Framed answer = Frame tells (input ∷ []) outs old new drains answer

  -- a call that failed is answered
  failures_of : (answer : Stop) (ended : Outcome) → Touches tells (opening (input ∷ []) outs) (failing_all answer) old new
      → AnswersFailures (around tells old.inputs new.inputs old.outputs new.outputs) (answered answer ended)
  failures_of stop.Ended ended t = record { opens = λ other. t.inputs.how.slots; reads = λ settled. t.inputs.how.faults; writes = λ other. t.outputs.how.faults }
  failures_of stop.ReadFault ended t = record { opens = λ other. absurd (other refl); reads = λ settled. absurd settled; writes = λ other. t.outputs.how.faults }
  failures_of stop.WriteFault ended t = record { opens = λ other. t.inputs.how.slots; reads = λ settled. absurd settled; writes = λ other. absurd (other refl) }
  failures_of stop.NoMemory ended t = record { opens = λ other. t.inputs.how.slots; reads = λ settled. absurd settled; writes = λ other. t.outputs.how.faults }

  all_of : (answer : Stop) (ended : Outcome) → Framed answer → IsBehindAll ⊥ (answered answer ended)
      → (new.inputs.side.asked ≡ old.inputs.side.asked ++ input ∷ []) × (new.outputs.side.asked ≡ old.outputs.side.asked ++ outs)
  all_of stop.Ended ended frame behind = frame.all refl
  all_of stop.ReadFault ended frame behind = absurd behind
  all_of stop.WriteFault ended frame behind = absurd behind
  all_of stop.NoMemory ended frame behind = absurd behind

  first_slot : old.inputs.side.slots + 0 ≡ old.inputs.side.slots
  first_slot = omega arith

  drained_of : (answer : Stop) (ended : Outcome) → Framed answer → (IsDone ended → drains) → IsDone (answered answer ended) → IsTrue tells
      → IsTrue (new.inputs.ended old.inputs.side.slots)
  drained_of stop.Ended ended frame all done told = subst (λ (k : ℕ). IsTrue (new.inputs.ended k)) first_slot (frame.drained refl (all done) told 0 (omega arith))
  drained_of stop.ReadFault ended frame all done told = absurd done
  drained_of stop.WriteFault ended frame all done told = absurd done
  drained_of stop.NoMemory ended frame all done told = absurd done

  opens_of : (answer : Stop) (ended : Outcome) → (OpensNothing ended → ⊥) → OpensNothing (answered answer ended) → ⊥
  opens_of stop.Ended ended opens none = opens none
  opens_of stop.ReadFault ended opens none = none
  opens_of stop.WriteFault ended opens none = none
  opens_of stop.NoMemory ended opens none = none

  pub bounds_ran : (Apart : Type 0) (answer : Stop) (ended : Outcome) → Framed answer → (IsDone ended → drains) → (OpensNothing ended → ⊥) → Apart
      → Bounds (around tells old.inputs new.inputs old.outputs new.outputs) input outs Apart (answered answer ended)
  bounds_ran Apart answer ended frame all opens apart = record {
    asked_in = frame.asked_in;
    asked_out = frame.asked_out;
    all_in = λ behind. (all_of answer ended frame behind).0;
    all_out = λ behind. (all_of answer ended frame behind).1;
    unopened = λ none. absurd (opens_of answer ended opens none);
    differed = inr apart;
    no_output = λ same. frame.no_output (omega (arith, same));
    unread = λ told less more. subst (λ (k : ℕ). holds old.outputs input ≡ Some (new.inputs.left k)) first_slot (frame.unread less told 0 (omega (arith, more)));
    drained = drained_of answer ended frame all;
    failures = failures_of answer ended frame.touches;
    kept_in = touches-kept_in tells (input ∷ []) outs (failing_all answer) old new frame.touches;
    kept_out = λ told. touches-kept_out tells (input ∷ []) outs (failing_all answer) old new told frame.touches;
  }

  -- ---- what the outputs hold

  abbrev content : Option (List ℕ)
  content = holds old.outputs input

  abbrev octets : List ℕ
  octets = contents tells (input ∷ []) outs old new 0

  held_there : (answer : Stop) → Framed answer → IsTrue tells → old.inputs.side.slots < new.inputs.side.slots → content ≡ Some octets
  held_there answer frame told opened = frame.held told 0 (omega (arith, opened))

  -- `All` is so of what the input holds where the run ended, `Part` of what is left of it and of what it holds where a read
  -- failed, `Some` where what is held is a prefix
  module _ (All : List ℕ → Type 0) (Part : List ℕ → List ℕ → Type 0) (First : List ℕ → Type 0) where
    abbrev pub LeftBy : Stop → Type 0
    LeftBy stop.Ended = IsSomeAnd content All
    LeftBy stop.ReadFault = ((new.inputs.side.slots ≡ old.inputs.side.slots) × (new.outputs ≡ old.outputs))
        ⊎ ((old.inputs.side.slots < new.inputs.side.slots) × IsSomeAnd content (Part (new.inputs.left old.inputs.side.slots)))
    LeftBy stop.WriteFault = IsSomeAnd content First
    LeftBy stop.NoMemory = (new.outputs ≡ old.outputs) ⊎ IsSomeAnd content First

    -- `Texts` and `Firsts` say which texts are whole, and which are those of some first items
    module _ (Texts : How → List ℕ → List (List ℕ) → Type 0) (Firsts : List ℕ → List (List ℕ) → Type 0)
        (all : (so : List (List ℕ)) (of : List ℕ) → Texts Ended of so → HoldTexts new.outputs outs so → All of)
        (part : (so : List (List ℕ)) (handed left : List ℕ) → Texts Handed handed so → HoldTexts new.outputs outs so → Part left (handed ++ left))
        (first : (so : List (List ℕ)) (of : List ℕ) → Firsts of so → HoldFronts old.outputs new.outputs 0 outs so → First of) where
      abbrev Left : Stop → Type 0
      Left answer = Leaves tells (input ∷ []) outs old new (λ how of. Texts how (of 0)) (λ of. Firsts (of 0)) answer

      some_held : content ≡ Some octets → HoldSome tells (input ∷ []) outs old new (λ how of. Texts how (of 0)) (λ of. Firsts (of 0)) → IsSomeAnd content First
      some_held is some = held_some content octets First is (first some.so octets some.texts some.held)

      left_by : (answer : Stop) → Framed answer → IsTrue tells → Left answer → LeftBy answer
      left_by stop.Ended frame told leaves = held_some content octets All (held_there stop.Ended frame told (omega (arith, leaves.0)))
          (all leaves.1.so octets leaves.1.texts leaves.1.held)
      left_by stop.ReadFault frame told (inl none) = inl (
        omega (arith, none.0, touches-slots_in tells (opening (input ∷ []) outs) (failing_all stop.ReadFault) old new frame.touches),
        none.1,
      )
      left_by stop.ReadFault frame told (inr (opens, handed)) =
          let opened : old.inputs.side.slots < new.inputs.side.slots = omega (arith, opens) in
          let left : List ℕ = new.inputs.left old.inputs.side.slots in
          let split : octets ≡ handed.handed 0 ++ left = handed.splits 0 (omega arith) ∙ ap (λ (k : ℕ). handed.handed 0 ++ new.inputs.left k) first_slot in
          inr (
            opened,
            held_some content octets (Part left) (held_there stop.ReadFault frame told opened)
                (subst (Part left) (sym split) (part handed.hold.so (handed.handed 0) left handed.hold.texts handed.hold.held)),
          )
      left_by stop.WriteFault frame told leaves = some_held (held_there stop.WriteFault frame told (omega (arith, leaves.0))) leaves.1
      left_by stop.NoMemory frame told (inl same) = inl same
      left_by stop.NoMemory frame told (inr (opens, some)) = inr (some_held (held_there stop.NoMemory frame told (omega (arith, opens))) some)

      -- the same of names that are given as lists
      pub kept_by : (ins these : List (List ℕ)) → ins ≡ input ∷ [] → these ≡ outs → (answer : Stop) → Frame tells ins these old new drains answer
          → (IsTrue tells → Leaves tells ins these old new (λ how of. Texts how (of 0)) (λ of. Firsts (of 0)) answer) → Framed answer × (IsTrue tells → LeftBy answer)
      kept_by ins these one_in one_out answer frame leaves =
          let here = subst (λ (os : List (List ℕ)). Frame tells (input ∷ []) os old new drains answer) one_out
          (subst (λ (is : List (List ℕ)). Frame tells is these old new drains answer) one_in frame) in (
            here,
            λ told. left_by answer here told
                (subst (λ (os : List (List ℕ)). Leaves tells (input ∷ []) os old new (λ how of. Texts how (of 0)) (λ of. Firsts (of 0)) answer) one_out
                (subst (λ (is : List (List ℕ)). Leaves tells is these old new (λ how of. Texts how (of 0)) (λ of. Firsts (of 0)) answer) one_in (leaves told))),
          )
