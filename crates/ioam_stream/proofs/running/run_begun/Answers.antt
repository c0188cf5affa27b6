use Rattle.ioam_desk.specs.Asked.{AsksFront}
use Rattle.std.specs.Prelude.{⊤}
use Rattle.std.proofs.Common.{◌≡◌, ℕ, List, rules, length, ap, refl, sym, subst, ◌∙◌, arith, [], inl, inr}
use Rattle.ioam_desk.specs.Desk.{Side, Reading, Writing}
use Rattle.ioam_desk.specs.Touches.{state, State, Quiet, Input, Output, opening}
use Rattle.ioam_desk.proofs.TouchesLaws.{touches-slots_in, touches-more, touches-quiet_late}
use Rattle.ioam_desk_outputs.specs.Held.{HoldFronts}
use Rattle.ioam_desk_outputs.specs.Open.{AreSlots}
use Rattle.ioam_desk_outputs.specs.Told.{AreTold, GathersNothing, unsaid}
use Rattle.ioam_desk_outputs.specs.declared.output.Output.{Output as Sink}
use Rattle.ioam_desk_outputs.proofs.ToldLaws.{told_names}
use Rattle.ioam_stream.specs.Stage.{unseen}
use Rattle.ioam_stream.specs.Streams.{Start, IsFedSo, Finishes, failing, streams_from}
use Rattle.ioam_stream.proofs.FrameLaws.{within_ins, frame_none, frame_ins, frame_outs, frame_ran, finishes_leaves, drained_of, unopened_less, unopened_some, unsealed_of, said_of, fewer_most, slots_most, opened_unseen, opened_both, marked_of, no_read, no_write, no_memory, no_fault, no_unread}
use Rattle.ioam_stream.proofs.running.run_begun.Goals as goal

pub returns-in_default-clause-frame : goal.returns-in_default-clause-frame
returns-in_default-clause-frame g c = frame_none g.D.Desk.tells c.args.inputs.now c.args.outputs.now _ (state (g.D.Desk.reading c.args.desk.now) (g.D.Desk.writing c.args.desk.now))

pub returns-in-Err-Failed-clause-frame : goal.returns-in-Err-Failed-clause-frame
returns-in-Err-Failed-clause-frame g c = frame_ins g.D.Desk.tells c.args.inputs.now c.args.outputs.now _ (state (g.D.Desk.reading c.args.desk.now) (g.D.Desk.writing c.args.desk.now)) (state (g.D.Desk.reading c.open_inputs.new.desk) (g.D.Desk.writing c.open_inputs.new.desk)) _ no_read
    (touches-more g.D.Desk.tells (opening c.args.inputs.now []) (opening c.args.inputs.now c.args.outputs.now) Input _ _ (within_ins g.D.Desk.tells c.args.inputs.now c.args.outputs.now ⊤) (rw c.in-Err-Failed.field-0-is at c.in-Err-Failed.ensures.touches))
    c.in-Err-Failed.ensures.asked c.in-Err-Failed.ensures.unread c.in-Err-Failed.ensures.outputs
    (fewer_most (g.D.Desk.reading c.args.desk.now).side (g.D.Desk.reading c.open_inputs.new.desk).side c.args.inputs.now (rw c.in-Err-Failed.field-0-is at c.in-Err-Failed.ensures.fewer))

pub returns-in-Err-NoMemory-clause-frame : goal.returns-in-Err-NoMemory-clause-frame
returns-in-Err-NoMemory-clause-frame g c = frame_ins g.D.Desk.tells c.args.inputs.now c.args.outputs.now _ (state (g.D.Desk.reading c.args.desk.now) (g.D.Desk.writing c.args.desk.now)) (state (g.D.Desk.reading c.open_inputs.new.desk) (g.D.Desk.writing c.open_inputs.new.desk)) _ no_memory
    (touches-quiet_late g.D.Desk.tells (opening c.args.inputs.now c.args.outputs.now) _ _
    (touches-more g.D.Desk.tells (opening c.args.inputs.now []) (opening c.args.inputs.now c.args.outputs.now) Quiet _ _ (within_ins g.D.Desk.tells c.args.inputs.now c.args.outputs.now ⊤) (rw c.in-Err-NoMemory.field-0-is at c.in-Err-NoMemory.ensures.touches)))
    c.in-Err-NoMemory.ensures.asked c.in-Err-NoMemory.ensures.unread c.in-Err-NoMemory.ensures.outputs
    (slots_most (g.D.Desk.reading c.args.desk.now).side (g.D.Desk.reading c.open_inputs.new.desk).side c.args.inputs.now c.in-Err-NoMemory.ensures.asked (rw c.in-Err-NoMemory.field-0-is at c.in-Err-NoMemory.ensures.touches).inputs.how.slots)

pub returns-in-Err-Failed-open_outputs-clause-frame : goal.returns-in-Err-Failed-open_outputs-clause-frame
returns-in-Err-Failed-open_outputs-clause-frame g c = frame_outs g.D.Desk.tells c.args.inputs.now c.args.outputs.now _ (state (g.D.Desk.reading c.args.desk.now) (g.D.Desk.writing c.args.desk.now)) (state (g.D.Desk.reading c.open_inputs.new.desk) (g.D.Desk.writing c.open_inputs.new.desk)) (state (g.D.Desk.reading c.open_outputs.new.desk) (g.D.Desk.writing c.open_outputs.new.desk)) _ no_write
    (opened_both g.D.Desk.tells c.args.inputs.now c.args.outputs.now Output _ _ _ c.in-Ok-open_inputs.ensures.touches (rw c.in-Err-Failed-open_outputs.field-0-is at c.in-Err-Failed-open_outputs.ensures.touches))
    c.in-Ok-open_inputs.ensures.side c.in-Err-Failed-open_outputs.ensures.inputs
    (subst (λ (w : Writing). AsksFront w.side.asked (g.D.Desk.writing c.open_outputs.new.desk).side.asked c.args.outputs.now) c.in-Ok-open_inputs.ensures.outputs c.in-Err-Failed-open_outputs.ensures.asked)
    c.in-Ok-open_inputs.ensures.unread

pub returns-in-Err-Failed-open_outputs-clause-leaves : goal.returns-in-Err-Failed-open_outputs-clause-leaves
returns-in-Err-Failed-open_outputs-clause-leaves g c = λ told. (
  omega (arith, ap (λ (r : Reading). r.side.slots) c.in-Err-Failed-open_outputs.ensures.inputs, ap (λ (s : Side). s.slots) c.in-Ok-open_inputs.ensures.side),
  unopened_some g.S.Stage.kind g.D.Desk.tells c.args.inputs.now c.args.outputs.now g.met.S.Stage.lawful (state (g.D.Desk.reading c.args.desk.now) (g.D.Desk.writing c.args.desk.now)) (state (g.D.Desk.reading c.open_outputs.new.desk) (g.D.Desk.writing c.open_outputs.new.desk)) c.args.stage.now _
      c.requires.1.1.1.1.1.0 c.requires.1.1.1.1.0
      (subst (λ (w : Writing). (texts : List (List ℕ)) → length texts ≡ length c.args.outputs.now → HoldFronts w (g.D.Desk.writing c.open_outputs.new.desk) 0 c.args.outputs.now texts)
      c.in-Ok-open_inputs.ensures.outputs (c.in-Err-Failed-open_outputs.ensures.fronts told)),
)

pub returns-in-Ok-open_outputs-clause-leaves : goal.returns-in-Ok-open_outputs-clause-leaves
returns-in-Ok-open_outputs-clause-leaves g c = λ told.
    let new = state (g.D.Desk.reading c.run_open.new.desk) (g.D.Desk.writing c.run_open.new.desk) in
    finishes_leaves g.S.Stage.kind g.D.Desk.tells c.args.inputs.now c.args.outputs.now g.met.S.Stage.lawful (state (g.D.Desk.reading c.args.desk.now) (g.D.Desk.writing c.args.desk.now)) new c.args.stage.now c.run_open.new.stage c.run_open.result
    c.requires.1.1.1.0
    (omega (
      arith,
      touches-slots_in g.D.Desk.tells (streams_from g.start.base_in g.start.base_out) (failing c.run_open.result) (state (g.D.Desk.reading c.open_outputs.new.desk) (g.D.Desk.writing c.open_outputs.new.desk)) new c.run_open.ensures.touches,
      ap (λ (r : Reading). r.side.slots) c.in-Ok-open_outputs.ensures.inputs,
      ap (λ (s : Side). s.slots) c.in-Ok-open_inputs.ensures.side,
    ))
    told (let P : Start _ → Type 0 = λ s. Finishes g.S.Stage.kind g.D.Desk.tells s new c.run_open.new.stage c.run_open.result in subst P c.requires.1.1.1.1.1.1 c.run_open.ensures.finishes)

pub returns-in-Ok-open_outputs-clause-frame : goal.returns-in-Ok-open_outputs-clause-frame
returns-in-Ok-open_outputs-clause-frame g c =
    let new = state (g.D.Desk.reading c.run_open.new.desk) (g.D.Desk.writing c.run_open.new.desk) in
    let starts = c.requires.1.1.1.1.1.1 in
    frame_ran g.D.Desk.tells c.args.inputs.now c.args.outputs.now _ (state (g.D.Desk.reading c.args.desk.now) (g.D.Desk.writing c.args.desk.now)) (state (g.D.Desk.reading c.open_inputs.new.desk) (g.D.Desk.writing c.open_inputs.new.desk)) (state (g.D.Desk.reading c.open_outputs.new.desk) (g.D.Desk.writing c.open_outputs.new.desk)) new c.run_open.result
    g.start.base_in g.start.base_out (ap (λ (s : Start _). s.base_in) starts) (ap (λ (s : Start _). s.base_out) starts)
    c.in-Ok-open_inputs.ensures.touches c.in-Ok-open_inputs.ensures.side c.in-Ok-open_outputs.ensures.touches c.in-Ok-open_outputs.ensures.inputs c.in-Ok-open_outputs.ensures.side c.in-Ok-open_inputs.ensures.outputs
    c.run_open.ensures.touches c.in-Ok-open_inputs.ensures.unread
    (drained_of g.S.Stage.kind g.D.Desk.tells c.args.inputs.now c.args.outputs.now (state (g.D.Desk.reading c.args.desk.now) (g.D.Desk.writing c.args.desk.now)) new c.args.stage.now c.run_open.new.stage c.run_open.result c.requires.1.1.1.0
    (let P : Start _ → Type 0 = λ s. Finishes g.S.Stage.kind g.D.Desk.tells s new c.run_open.new.stage c.run_open.result in subst P starts c.run_open.ensures.finishes))

pub returns-in-Err-Failed-clause-leaves : goal.returns-in-Err-Failed-clause-leaves
returns-in-Err-Failed-clause-leaves g c = λ told. inl (rw c.in-Err-Failed.field-0-is at c.in-Err-Failed.ensures.fewer, c.in-Err-Failed.ensures.outputs)

pub run_open-requires : goal.run_open-requires
run_open-requires g c κs within =
    let old : State = state (g.D.Desk.reading c.args.desk.now) (g.D.Desk.writing c.args.desk.now) in
    let mid : State = state (g.D.Desk.reading c.open_inputs.new.desk) (g.D.Desk.writing c.open_inputs.new.desk) in
    let late : State = state (g.D.Desk.reading c.open_outputs.new.desk) (g.D.Desk.writing c.open_outputs.new.desk) in
    let starts = sym c.requires.1.1.1.1.1.1 in
    let outputs = c.deref_mut.result.now in
    let told : AreTold g.D.Desk.tells late.outputs old.outputs.side.slots c.args.outputs.now outputs (unsaid c.args.outputs.now) =
    subst (λ (os : List Sink). AreTold g.D.Desk.tells late.outputs old.outputs.side.slots c.args.outputs.now os (unsaid c.args.outputs.now)) (sym c.deref_mut.ensures.value)
    (subst (λ (w : Writing). AreTold g.D.Desk.tells late.outputs w.side.slots c.args.outputs.now c.in-Ok-open_outputs.outputs.items (unsaid c.args.outputs.now)) c.in-Ok-open_inputs.ensures.outputs c.in-Ok-open_outputs.ensures.opened) in
    let fed = let P : Start _ → Type 0 = λ s. IsFedSo g.S.Stage.kind g.D.Desk.tells s late.inputs unseen in
    subst P starts (opened_unseen g.S.Stage.kind g.D.Desk.tells c.args.inputs.now c.args.outputs.now old mid late c.args.stage.now c.requires.1.1.1.0 c.in-Ok-open_inputs.ensures.side c.in-Ok-open_outputs.ensures.inputs c.in-Ok-open_inputs.ensures.unread c.in-Ok-open_inputs.ensures.unended) in (
      search rules,
      (
        search rules,
        (
          fed,
          (
            (let P : Start _ → Type 0 = λ s. AreTold g.D.Desk.tells late.outputs s.base_out s.names outputs (unsaid s.names) in subst P starts told),
            (
              subst (λ (os : List Sink). GathersNothing os) (sym c.deref_mut.ensures.value) c.in-Ok-open_outputs.ensures.nothing,
              (
                (let P : Start _ → Type 0 = λ s. length outputs ≡ g.S.Stage.kind.width s.begun in subst P starts
                    (told_names g.D.Desk.tells late.outputs old.outputs.side.slots c.args.outputs.now outputs (unsaid c.args.outputs.now) told ∙ c.requires.1.1.1.1.0)),
                (
                  ap (λ (s : Start _). s.begun) c.requires.1.1.1.1.1.1,
                  (
                    c.requires.1.1.1.1.1.0,
                    (
                      (let P : Start _ → Type 0 = λ s. AreSlots s.base_in (g.S.Stage.kind.inputs s.begun) c.deref.result.now in subst P starts
                          (subst (λ (n : ℕ). AreSlots old.inputs.side.slots n c.deref.result.now) c.requires.1.1.1.0
                          (subst (λ (xs : List ℕ). AreSlots old.inputs.side.slots (length c.args.inputs.now) xs) (sym c.deref.ensures.value) c.in-Ok-open_inputs.ensures.slots))),
                      (omega (arith, c.in-Ok.ensures, ap (λ (xs : List ℕ). length xs) c.deref_mut-in-Ok-open_outputs.ensures.value), omega (arith, c.in-Ok.ensures, ap (λ (xs : List ℕ). length xs) c.deref_mut-in-Ok-open_outputs.ensures.value)),
                    ),
                  ),
                ),
              ),
            ),
          ),
        ),
      ),
    )

pub returns-clause-frame : goal.returns-clause-frame
returns-clause-frame g c = frame_outs g.D.Desk.tells c.args.inputs.now c.args.outputs.now _ (state (g.D.Desk.reading c.args.desk.now) (g.D.Desk.writing c.args.desk.now)) (state (g.D.Desk.reading c.open_inputs.new.desk) (g.D.Desk.writing c.open_inputs.new.desk)) (state (g.D.Desk.reading c.open_outputs.new.desk) (g.D.Desk.writing c.open_outputs.new.desk)) _ no_memory
    (touches-quiet_late g.D.Desk.tells (opening c.args.inputs.now c.args.outputs.now) _ _
    (opened_both g.D.Desk.tells c.args.inputs.now c.args.outputs.now Quiet _ _ _ c.in-Ok-open_inputs.ensures.touches (rw c.in-Err-NoMemory-open_outputs.field-0-is at c.in-Err-NoMemory-open_outputs.ensures.touches)))
    c.in-Ok-open_inputs.ensures.side c.in-Err-NoMemory-open_outputs.ensures.inputs
    (subst (λ (w : Writing). AsksFront w.side.asked (g.D.Desk.writing c.open_outputs.new.desk).side.asked c.args.outputs.now) c.in-Ok-open_inputs.ensures.outputs c.in-Err-NoMemory-open_outputs.ensures.asked)
    c.in-Ok-open_inputs.ensures.unread

pub returns-clause-leaves : goal.returns-clause-leaves
returns-clause-leaves g c = λ told. inr (
  omega (arith, ap (λ (r : Reading). r.side.slots) c.in-Err-NoMemory-open_outputs.ensures.inputs, ap (λ (s : Side). s.slots) c.in-Ok-open_inputs.ensures.side),
  unopened_some g.S.Stage.kind g.D.Desk.tells c.args.inputs.now c.args.outputs.now g.met.S.Stage.lawful (state (g.D.Desk.reading c.args.desk.now) (g.D.Desk.writing c.args.desk.now)) (state (g.D.Desk.reading c.open_outputs.new.desk) (g.D.Desk.writing c.open_outputs.new.desk)) c.args.stage.now _
      c.requires.1.1.1.1.1.0 c.requires.1.1.1.1.0
      (subst (λ (w : Writing). (texts : List (List ℕ)) → length texts ≡ length c.args.outputs.now → HoldFronts w (g.D.Desk.writing c.open_outputs.new.desk) 0 c.args.outputs.now texts)
      c.in-Ok-open_inputs.ensures.outputs (c.in-Err-NoMemory-open_outputs.ensures.fronts told)),
)

pub returns-in_default-clause-marks : goal.returns-in_default-clause-marks
returns-in_default-clause-marks g c = λ told is. absurd (no_unread is)

pub returns-in_default-clause-alone : goal.returns-in_default-clause-alone
returns-in_default-clause-alone g c = λ none. (refl, no_unread)

pub returns-in-Err-Failed-clause-marks : goal.returns-in-Err-Failed-clause-marks
returns-in-Err-Failed-clause-marks g c =
    let fewer = rw c.in-Err-Failed.field-0-is at c.in-Err-Failed.ensures.fewer in
    λ told is opened. absurd (omega (arith, fewer, opened))

pub returns-in-Err-Failed-clause-alone : goal.returns-in-Err-Failed-clause-alone
returns-in-Err-Failed-clause-alone g c =
    let fewer = rw c.in-Err-Failed.field-0-is at c.in-Err-Failed.ensures.fewer in
    λ none. absurd (omega (arith, fewer, none, ap (λ (r : Reading). r.side.slots) (c.in-Err-Failed.ensures.none none)))

pub returns-in-Err-NoMemory-clause-marks : goal.returns-in-Err-NoMemory-clause-marks
returns-in-Err-NoMemory-clause-marks g c = λ told is. absurd (no_unread is)

pub returns-in-Err-NoMemory-clause-alone : goal.returns-in-Err-NoMemory-clause-alone
returns-in-Err-NoMemory-clause-alone g c = λ none. (c.in-Err-NoMemory.ensures.none none, no_unread)

pub returns-in-Err-Failed-open_outputs-clause-marks : goal.returns-in-Err-Failed-open_outputs-clause-marks
returns-in-Err-Failed-open_outputs-clause-marks g c = λ told is. absurd (no_fault is)

pub returns-in-Err-Failed-open_outputs-clause-alone : goal.returns-in-Err-Failed-open_outputs-clause-alone
returns-in-Err-Failed-open_outputs-clause-alone g c = λ none. (c.in-Err-Failed-open_outputs.ensures.inputs ∙ c.in-Ok-open_inputs.ensures.none none, no_fault)

pub returns-clause-marks : goal.returns-clause-marks
returns-clause-marks g c = λ told is. absurd (no_unread is)

pub returns-clause-alone : goal.returns-clause-alone
returns-clause-alone g c = λ none. (c.in-Err-NoMemory-open_outputs.ensures.inputs ∙ c.in-Ok-open_inputs.ensures.none none, no_unread)

pub returns-in-Ok-open_outputs-clause-marks : goal.returns-in-Ok-open_outputs-clause-marks
returns-in-Ok-open_outputs-clause-marks g c = λ told.
    let new = state (g.D.Desk.reading c.run_open.new.desk) (g.D.Desk.writing c.run_open.new.desk) in
    marked_of g.S.Stage.kind g.D.Desk.tells c.args.inputs.now c.args.outputs.now (state (g.D.Desk.reading c.args.desk.now) (g.D.Desk.writing c.args.desk.now)) new c.args.stage.now c.run_open.new.stage c.run_open.result
    c.requires.1.1.1.0
    (let P : Start _ → Type 0 = λ s. Finishes g.S.Stage.kind g.D.Desk.tells s new c.run_open.new.stage c.run_open.result in subst P c.requires.1.1.1.1.1.1 c.run_open.ensures.finishes)
    told

pub returns-in-Ok-open_outputs-clause-alone : goal.returns-in-Ok-open_outputs-clause-alone
returns-in-Ok-open_outputs-clause-alone g c = λ none.
    let starts = c.requires.1.1.1.1.1.1 in
    let ran = c.run_open.ensures.alone (ap (λ (s : Start _). g.S.Stage.kind.inputs s.begun) starts ∙ sym c.requires.1.1.1.0 ∙ none) in
    (ran.0 ∙ c.in-Ok-open_outputs.ensures.inputs ∙ c.in-Ok-open_inputs.ensures.none none, ran.1)

pub returns-in-Ok-open_outputs-clause-sealed : goal.returns-in-Ok-open_outputs-clause-sealed
returns-in-Ok-open_outputs-clause-sealed g c = λ told.
    let new = state (g.D.Desk.reading c.run_open.new.desk) (g.D.Desk.writing c.run_open.new.desk) in
    unsealed_of g.S.Stage.kind g.D.Desk.tells c.args.inputs.now c.args.outputs.now (state (g.D.Desk.reading c.args.desk.now) (g.D.Desk.writing c.args.desk.now)) new c.args.stage.now c.run_open.new.stage c.run_open.result
    told (let P : Start _ → Type 0 = λ s. Finishes g.S.Stage.kind g.D.Desk.tells s new c.run_open.new.stage c.run_open.result in subst P c.requires.1.1.1.1.1.1 c.run_open.ensures.finishes)

pub returns-in-Err-Failed-open_outputs-clause-sealed : goal.returns-in-Err-Failed-open_outputs-clause-sealed
returns-in-Err-Failed-open_outputs-clause-sealed g c = λ told.
    unopened_less g.S.Stage.kind g.D.Desk.tells c.args.inputs.now c.args.outputs.now g.met.S.Stage.lawful (state (g.D.Desk.reading c.args.desk.now) (g.D.Desk.writing c.args.desk.now)) (state (g.D.Desk.reading c.open_outputs.new.desk) (g.D.Desk.writing c.open_outputs.new.desk)) c.args.stage.now
    c.requires.1.1.1.1.1.0 c.requires.1.1.1.1.0
    (subst (λ (w : Writing). (texts : List (List ℕ)) → length texts ≡ length c.args.outputs.now → HoldFronts w (g.D.Desk.writing c.open_outputs.new.desk) 0 c.args.outputs.now texts)
    c.in-Ok-open_inputs.ensures.outputs (c.in-Err-Failed-open_outputs.ensures.fronts told))

pub returns-clause-sealed : goal.returns-clause-sealed
returns-clause-sealed g c = λ told. inr (
    unopened_less g.S.Stage.kind g.D.Desk.tells c.args.inputs.now c.args.outputs.now g.met.S.Stage.lawful (state (g.D.Desk.reading c.args.desk.now) (g.D.Desk.writing c.args.desk.now)) (state (g.D.Desk.reading c.open_outputs.new.desk) (g.D.Desk.writing c.open_outputs.new.desk)) c.args.stage.now
    c.requires.1.1.1.1.1.0 c.requires.1.1.1.1.0
    (subst (λ (w : Writing). (texts : List (List ℕ)) → length texts ≡ length c.args.outputs.now → HoldFronts w (g.D.Desk.writing c.open_outputs.new.desk) 0 c.args.outputs.now texts)
    c.in-Ok-open_inputs.ensures.outputs (c.in-Err-NoMemory-open_outputs.ensures.fronts told))
    )

pub returns-in_default-clause-said : goal.returns-in_default-clause-said
returns-in_default-clause-said g c = λ is. absurd (no_memory is)

pub returns-in-Err-Failed-clause-said : goal.returns-in-Err-Failed-clause-said
returns-in-Err-Failed-clause-said g c = λ is. absurd (no_read is)

pub returns-in-Err-NoMemory-clause-said : goal.returns-in-Err-NoMemory-clause-said
returns-in-Err-NoMemory-clause-said g c = λ is. absurd (no_memory is)

pub returns-in-Err-Failed-open_outputs-clause-said : goal.returns-in-Err-Failed-open_outputs-clause-said
returns-in-Err-Failed-open_outputs-clause-said g c = λ is. absurd (no_write is)

pub returns-clause-said : goal.returns-clause-said
returns-clause-said g c = λ is. absurd (no_memory is)

pub returns-in-Ok-open_outputs-clause-said : goal.returns-in-Ok-open_outputs-clause-said
returns-in-Ok-open_outputs-clause-said g c = λ is.
    let new = state (g.D.Desk.reading c.run_open.new.desk) (g.D.Desk.writing c.run_open.new.desk) in
    said_of g.S.Stage.kind g.D.Desk.tells c.args.inputs.now c.args.outputs.now (state (g.D.Desk.reading c.args.desk.now) (g.D.Desk.writing c.args.desk.now)) new c.args.stage.now c.run_open.new.stage c.run_open.result
    (let P : Start _ → Type 0 = λ s. Finishes g.S.Stage.kind g.D.Desk.tells s new c.run_open.new.stage c.run_open.result in subst P c.requires.1.1.1.1.1.1 c.run_open.ensures.finishes) is
