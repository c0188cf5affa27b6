-- Laws of runs over opened files.
use Rattle.std.proofs.Common.{false, ◌≡◌, ℕ, ◌+◌, ◌<◌, Bool, IsTrue, List, [], ◌++◌, length, Result, Ok, Err, refl, sym, ◌∙◌, ap, subst, ◌∷◌, arith, inl}
use Rattle.ioam_desk.specs.Desk.{Writing}
use Rattle.ioam_desk.specs.Touches.{State, writes_from, Touches, Quiet, Output, failing_out}
use Rattle.ioam_desk.specs.declared.fault.DeskFault.{DeskFault}
use Rattle.ioam_desk.specs.declared.fault.DeskFault.TheVariants.{Failed, NoMemory}
use Rattle.ioam_desk.proofs.TouchesLaws.{touches-within, touches-quiet_late, touches-rest}
use Rattle.ioam_desk_outputs.specs.Flush.{KeepsTold, LeavesSome}
use Rattle.ioam_desk_outputs.specs.Held.{HoldTexts, HoldAllFronts}
use Rattle.ioam_desk_outputs.specs.Told.{AreOpen, Adds, AreTold, unsaid}
use Rattle.ioam_desk_outputs.proofs.HeldLaws.{AreTold-fronts, more_fronts}
use Rattle.ioam_desk_outputs.proofs.ToldLaws.{AreTold-open, AreTold-adds, told_names, said_first}
use Rattle.ioam_desk_outputs.specs.declared.output.Output.{Output as Sink}
use Rattle.ioam_stream.specs.Stage.{Kind, Lawful, Begins, unseen}
use Rattle.ioam_stream.specs.Streams.{Start, IsFedSo, Streams, Stops, Sticks, Finishes, streams_from, failing}
use Rattle.ioam_stream.specs.declared.reading.Stop.{Stop}
use Rattle.ioam_stream.specs.declared.reading.Stop.TheVariants as stop
use Rattle.ioam_stream.proofs.StreamsLaws.{within_writes, sticks_left}
use Rattle.ioam_stream.specs.Frame.{IsBroken}

-- outputs to which something was said are open
pub told_open : (tells : Bool) (base : ℕ) (names : List (List ℕ)) (desk : Writing) (outputs : List Sink)
    → (texts : List (List ℕ)) × AreTold tells desk base names outputs texts → AreOpen desk outputs
told_open tells base names desk outputs told = AreTold-open tells desk base names outputs told.0 told.1

module _ {S : Type 0} (kind : Kind S) (tells : Bool) (start : Start S) where
  -- what was said to the outputs when reading stopped
  pub stops_told : (state : State) (stage : S) (outputs : List Sink) (answer : Stop) → Stops kind tells start state stage outputs answer
      → (IsBroken answer → ⊥) → (so_far : List (List ℕ)) × AreTold tells state.outputs start.base_out start.names outputs so_far
  stops_told state stage outputs stop.Ended stops whole = (stops.0.so_far, stops.0.told)
  stops_told state stage outputs stop.ReadFault stops whole = (stops.2.so_far, stops.2.told)
  stops_told state stage outputs stop.WriteFault stops whole = absurd (whole tt)
  stops_told state stage outputs stop.NoMemory stops whole = absurd (whole tt)

  -- and then all of it was written
  pub stops_finishes : (old new : State) (stage : S) (outputs : List Sink) (answer : Stop) → Stops kind tells start old stage outputs answer
      → (IsBroken answer → ⊥)
      → (IsTrue tells → (so_far : List (List ℕ)) → AreTold tells old.outputs start.base_out start.names outputs so_far
      → HoldTexts new.outputs start.names so_far)
      → ((i : ℕ) → i < kind.inputs start.begun → new.inputs.left (start.base_in + i) ≡ old.inputs.left (start.base_in + i))
      → ((i : ℕ) → i < kind.inputs start.begun → new.inputs.ended (start.base_in + i) ≡ old.inputs.ended (start.base_in + i))
      → Finishes kind tells start new stage answer
  stops_finishes old new stage outputs stop.Ended stops whole texts left ended = (
    λ told. (stops.0.so_far, stops.0.says told, texts told stops.0.so_far stops.0.told),
    λ drains told i inside. subst (λ (b : Bool). IsTrue b) (sym (ended i inside)) (stops.1 drains told i inside),
    stops.2,
  )
  stops_finishes old new stage outputs stop.ReadFault stops whole texts left ended = (
    stops.0,
    λ told i inside. stops.1 told i inside ∙ ap (λ (xs : List ℕ). stops.0 i ++ xs) (sym (left i inside)),
    λ told. (stops.2.so_far, stops.2.says told, texts told stops.2.so_far stops.2.told),
    λ told. let marks = stops.3 told in (marks.0, marks.1, λ i inside. ended i inside ∙ marks.2 i inside, λ i inside done. left i inside ∙ marks.3 i inside done),
  )
  stops_finishes old new stage outputs stop.WriteFault stops whole texts left ended = absurd (whole tt)
  stops_finishes old new stage outputs stop.NoMemory stops whole texts left ended = absurd (whole tt)

  -- or only a prefix
  pub stops_sticks : (old new : State) (stage : S) (outputs after : List Sink) (answer : Stop) → length after ≡ kind.width start.begun
      → LeavesSome 1 outputs after → length outputs ≡ length after
      → Stops kind tells start old stage outputs answer → (IsBroken answer → ⊥) → KeepsTold tells old.outputs new.outputs outputs after → Sticks kind tells start new.outputs
  stops_sticks old new stage outputs after stop.Ended width left same stops whole says =
      sticks_left kind tells start new 1 outputs after stops.0.so_far width left same (says start.base_out start.names stops.0.so_far stops.0.told) stops.0.leads
  stops_sticks old new stage outputs after stop.ReadFault width left same stops whole says =
      sticks_left kind tells start new 1 outputs after stops.2.so_far width left same (says start.base_out start.names stops.2.so_far stops.2.told) stops.2.leads
  stops_sticks old new stage outputs after stop.WriteFault width left same stops whole says = absurd (whole tt)
  stops_sticks old new stage outputs after stop.NoMemory width left same stops whole says = absurd (whole tt)

-- something is added to each
adds_sized : (old new : List Sink) (added : List (List ℕ)) → Adds old new added → length added ≡ length old
adds_sized [] [] [] adds = refl
adds_sized (before ∷ old) (after ∷ new) (text ∷ added) adds = omega (arith, adds_sized old new added adds.2)
adds_sized [] [] (text ∷ added) adds = absurd adds
adds_sized [] (after ∷ new) added adds = absurd adds
adds_sized (before ∷ old) [] added adds = absurd adds
adds_sized (before ∷ old) (after ∷ new) [] adds = absurd adds

module _ {S : Type 0} (kind : Kind S) (tells : Bool) (start : Start S) where
  -- what stands before the first item was said
  pub begun_streams : (state : State) (stage : S) (before after : List Sink) → Begins kind stage before after → kind.fresh stage → start.begun ≡ stage
      → IsFedSo kind tells start state.inputs unseen
      → AreTold tells state.outputs start.base_out start.names before (unsaid start.names) → Streams kind tells start false state stage after
  begun_streams state stage before after begins fresh same fed told =
      let size = told_names tells state.outputs start.base_out start.names before (unsaid start.names) told in
      record {
        seen = unseen;
        so_far = begins.0;
        cut_is = refl;
        fed = fed;
        stands = let P : S → Type 0 = λ s. kind.stands s unseen begins.0 stage in subst P (sym same) (begins.2 fresh);
        told = let P : List (List ℕ) → Type 0 = λ texts. AreTold tells state.outputs start.base_out start.names after texts in
            subst P (said_first start.names begins.0 (adds_sized before after begins.0 begins.1 ∙ size))
            (AreTold-adds tells state.outputs start.base_out start.names before after (unsaid start.names) begins.0 told begins.1);
      }

  -- outputs to which nothing was said hold a prefix of any texts
  pub unbegun_sticks : (lawful : Lawful kind) (state : State) (stage : S) (before : List Sink) → kind.fresh stage → start.begun ≡ stage → length before ≡ kind.width start.begun
      → AreTold tells state.outputs start.base_out start.names before (unsaid start.names) → Sticks kind tells start state.outputs
  unbegun_sticks lawful state stage before fresh same width told =
      let size = told_names tells state.outputs start.base_out start.names before (unsaid start.names) told in
      let none = lawful.none start.begun start.contents (let P : S → Type 0 = λ s. kind.fresh s in subst P (sym same) fresh) in
      λ is. (
        none.0,
        (
            let P : List (List ℕ) → Type 0 = λ texts. HoldAllFronts state.outputs start.names texts in
            subst P (said_first start.names none.0 (none.1 ∙ sym width ∙ size))
            (more_fronts state.outputs start.names (unsaid start.names) none.0 (none.1 ∙ sym width ∙ size)
            (AreTold-fronts tells state.outputs start.base_out start.names before (unsaid start.names) is told))),
        inl none.2,
      )

-- what the answer of writing the rest makes of the answer
abbrev pub answered : Stop → Result (Unit {0}) DeskFault → Stop
answered answer (Ok _) = answer
answered answer (Err Failed) = stop.WriteFault
answered answer (Err NoMemory) = stop.NoMemory

pub touches_answered : (tells : Bool) (base_in base_out : ℕ) (a b c : State) (answer : Stop) (result : Result (Unit {0}) DeskFault) → (IsBroken answer → ⊥)
    → Touches tells (streams_from base_in base_out) (failing answer) a b → Touches tells (writes_from base_out) (failing_out result) b c
    → Touches tells (streams_from base_in base_out) (failing (answered answer result)) a c
touches_answered tells base_in base_out a b c stop.Ended (Ok _) whole first then =
    touches-within tells (streams_from base_in base_out) (writes_from base_out) Quiet a b c (within_writes base_in base_out) first then
touches_answered tells base_in base_out a b c stop.Ended (Err Failed) whole first then =
    touches-within tells (streams_from base_in base_out) (writes_from base_out) Output a b c (within_writes base_in base_out) first then
touches_answered tells base_in base_out a b c stop.Ended (Err NoMemory) whole first then = touches-quiet_late tells (streams_from base_in base_out) a c
    (touches-within tells (streams_from base_in base_out) (writes_from base_out) Quiet a b c (within_writes base_in base_out) first then)
touches_answered tells base_in base_out a b c stop.ReadFault (Ok u) whole first then =
    touches-rest tells (streams_from base_in base_out) (writes_from base_out) a b c (Ok u) (within_writes base_in base_out) first then
touches_answered tells base_in base_out a b c stop.ReadFault (Err Failed) whole first then =
    touches-rest tells (streams_from base_in base_out) (writes_from base_out) a b c (Err Failed) (within_writes base_in base_out) first then
touches_answered tells base_in base_out a b c stop.ReadFault (Err NoMemory) whole first then =
    touches-rest tells (streams_from base_in base_out) (writes_from base_out) a b c (Err NoMemory) (within_writes base_in base_out) first then
touches_answered tells base_in base_out a b c stop.WriteFault result whole first then = absurd (whole tt)
touches_answered tells base_in base_out a b c stop.NoMemory result whole first then = absurd (whole tt)
