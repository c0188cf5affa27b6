use Rattle.ioam_desk.specs.Touches.{state, State}
use Rattle.std.proofs.Common.{ap, ◌∙◌, ◌<◌, ◌+◌, ℕ, rules, arith, Ok, Err}
use Rattle.std.proofs.lemmas.Bool.{false≢true}
use Rattle.ioam_desk.specs.declared.fault.DeskFault.TheVariants.{Failed, NoMemory}
use Rattle.ioam_desk.proofs.TouchesLaws.{touches-slots_in}
use Rattle.ioam_stream.specs.Streams.{streams_from, failing}
use Rattle.ioam_stream.specs.Frame.{IsBroken}
use Rattle.ioam_stream.proofs.RunLaws.{told_open, begun_streams, unbegun_sticks, stops_told, stops_finishes, stops_sticks, touches_answered}
use Rattle.ioam_stream.proofs.FrameLaws.{no_fault, no_unread}
use Rattle.ioam_stream.proofs.running.run_open.Goals as goal

pub returns-in_default-clause-finishes : goal.returns-in_default-clause-finishes
returns-in_default-clause-finishes g c = unbegun_sticks g.S.Stage.kind g.D.Desk.tells g.start g.met.S.Stage.lawful (state (g.D.Desk.reading c.args.desk.now) (g.D.Desk.writing c.args.desk.now)) c.args.stage.now c.args.outputs.now
    c.requires.1.1.1.1.1.1.1.0 c.requires.1.1.1.1.1.1.0 c.requires.1.1.1.1.1.0 c.requires.1.1.1.0

pub begin-requires : goal.begin-requires
begin-requires g c = record {
  width = c.requires.1.1.1.1.1.0 ∙ ap g.S.Stage.kind.width c.requires.1.1.1.1.1.1.0;
  nothing = c.requires.1.1.1.1.0;
}

pub read_on-answer-requires : goal.read_on-answer-requires
read_on-answer-requires g c κs within = (
  search rules,
  (
    search rules,
    (
      begun_streams g.S.Stage.kind g.D.Desk.tells g.start (state (g.D.Desk.reading c.args.desk.now) (g.D.Desk.writing c.args.desk.now)) c.args.stage.now c.args.outputs.now c.begin.new.outputs
          c.in-Ok.ensures.begins c.requires.1.1.1.1.1.1.1.0 c.requires.1.1.1.1.1.1.0 c.requires.1.1.0 c.requires.1.1.1.0,
      (omega (arith, c.requires.1.1.1.1.1.0, c.begin.auto.outputs), (c.in-Ok.ensures.few, (c.requires.1.1.1.1.1.1.1.1.0, c.requires.1.1.1.1.1.1.1.1.1))),
    ),
  ),
)

pub finish-requires : goal.finish-requires
finish-requires g c = told_open g.D.Desk.tells g.start.base_out g.start.names (g.D.Desk.writing c.read_on-answer.new.desk) c.read_on-answer.new.outputs
    (stops_told g.S.Stage.kind g.D.Desk.tells g.start (state (g.D.Desk.reading c.read_on-answer.new.desk) (g.D.Desk.writing c.read_on-answer.new.desk)) c.read_on-answer.new.stage c.read_on-answer.new.outputs c.read_on-answer.result
    c.read_on-answer.ensures.stops (λ broken. false≢true (c.if-is_broken.ensures.1 broken)))

pub returns-in-Ok-finish-clause-finishes : goal.returns-in-Ok-finish-clause-finishes
returns-in-Ok-finish-clause-finishes g c =
    let old : State = state (g.D.Desk.reading c.read_on-answer.new.desk) (g.D.Desk.writing c.read_on-answer.new.desk) in
    let said = stops_told g.S.Stage.kind g.D.Desk.tells g.start old c.read_on-answer.new.stage c.read_on-answer.new.outputs c.read_on-answer.result
    c.read_on-answer.ensures.stops (λ broken. false≢true (c.if-is_broken.ensures.1 broken)) in
    let touches = c.in-Ok-finish.ensures.touches g.start.base_out g.start.names said.0 said.1 in
    let below : (i : ℕ) → i < g.S.Stage.kind.inputs g.start.begun → g.start.base_in + i < old.inputs.side.slots =
    λ i inside. omega (arith, c.requires.1.1.0.is_open i inside, touches-slots_in g.D.Desk.tells (streams_from g.start.base_in g.start.base_out) (failing c.read_on-answer.result) (state (g.D.Desk.reading c.args.desk.now) (g.D.Desk.writing c.args.desk.now)) old c.read_on-answer.ensures.touches) in
    stops_finishes g.S.Stage.kind g.D.Desk.tells g.start old (state (g.D.Desk.reading c.finish.new.desk) (g.D.Desk.writing c.finish.new.desk)) c.read_on-answer.new.stage c.read_on-answer.new.outputs c.read_on-answer.result
    c.read_on-answer.ensures.stops (λ broken. false≢true (c.if-is_broken.ensures.1 broken)) (λ told. c.in-Ok-finish.ensures.texts told g.start.base_out g.start.names)
    (λ i inside. touches.inputs.left (g.start.base_in + i) (below i inside) (λ none. none))
    (λ i inside. touches.inputs.ended (g.start.base_in + i) (below i inside) (λ none. none))

pub returns-in-Ok-finish-clause-touches : goal.returns-in-Ok-finish-clause-touches
returns-in-Ok-finish-clause-touches g c =
    let whole : IsBroken c.read_on-answer.result → ⊥ = λ broken. false≢true (c.if-is_broken.ensures.1 broken) in
    let said = stops_told g.S.Stage.kind g.D.Desk.tells g.start (state (g.D.Desk.reading c.read_on-answer.new.desk) (g.D.Desk.writing c.read_on-answer.new.desk)) c.read_on-answer.new.stage c.read_on-answer.new.outputs c.read_on-answer.result
    c.read_on-answer.ensures.stops whole in
    touches_answered g.D.Desk.tells g.start.base_in g.start.base_out _ _ _ c.read_on-answer.result (Ok c.in-Ok-finish.field-0)
    whole c.read_on-answer.ensures.touches (c.in-Ok-finish.ensures.touches g.start.base_out g.start.names said.0 said.1)

pub returns-in-Err-Failed-clause-finishes : goal.returns-in-Err-Failed-clause-finishes
returns-in-Err-Failed-clause-finishes g c = stops_sticks g.S.Stage.kind g.D.Desk.tells g.start (state (g.D.Desk.reading c.read_on-answer.new.desk) (g.D.Desk.writing c.read_on-answer.new.desk)) (state (g.D.Desk.reading c.finish.new.desk) (g.D.Desk.writing c.finish.new.desk))
    c.read_on-answer.new.stage c.read_on-answer.new.outputs c.finish.new.outputs c.read_on-answer.result
    (omega (arith, c.requires.1.1.1.1.1.0, c.begin.auto.outputs, c.read_on-answer.auto.outputs, c.finish.auto.outputs)) c.in-Err-Failed.ensures.left (omega (arith, c.finish.auto.outputs))
    c.read_on-answer.ensures.stops (λ broken. false≢true (c.if-is_broken.ensures.1 broken)) c.finish.ensures.told

pub returns-in-Err-Failed-clause-touches : goal.returns-in-Err-Failed-clause-touches
returns-in-Err-Failed-clause-touches g c =
    let whole : IsBroken c.read_on-answer.result → ⊥ = λ broken. false≢true (c.if-is_broken.ensures.1 broken) in
    let said = stops_told g.S.Stage.kind g.D.Desk.tells g.start (state (g.D.Desk.reading c.read_on-answer.new.desk) (g.D.Desk.writing c.read_on-answer.new.desk)) c.read_on-answer.new.stage c.read_on-answer.new.outputs c.read_on-answer.result
    c.read_on-answer.ensures.stops whole in
    touches_answered g.D.Desk.tells g.start.base_in g.start.base_out _ _ _ c.read_on-answer.result (Err Failed)
    whole c.read_on-answer.ensures.touches (rw c.in-Err-Failed.field-0-is at c.in-Err-Failed.ensures.touches g.start.base_out g.start.names said.0 said.1)

pub returns-in-Err-NoMemory-clause-finishes : goal.returns-in-Err-NoMemory-clause-finishes
returns-in-Err-NoMemory-clause-finishes g c = stops_sticks g.S.Stage.kind g.D.Desk.tells g.start (state (g.D.Desk.reading c.read_on-answer.new.desk) (g.D.Desk.writing c.read_on-answer.new.desk)) (state (g.D.Desk.reading c.finish.new.desk) (g.D.Desk.writing c.finish.new.desk))
    c.read_on-answer.new.stage c.read_on-answer.new.outputs c.finish.new.outputs c.read_on-answer.result
    (omega (arith, c.requires.1.1.1.1.1.0, c.begin.auto.outputs, c.read_on-answer.auto.outputs, c.finish.auto.outputs)) c.in-Err-NoMemory.ensures.left (omega (arith, c.finish.auto.outputs))
    c.read_on-answer.ensures.stops (λ broken. false≢true (c.if-is_broken.ensures.1 broken)) c.finish.ensures.told

pub returns-in-Err-NoMemory-clause-touches : goal.returns-in-Err-NoMemory-clause-touches
returns-in-Err-NoMemory-clause-touches g c =
    let whole : IsBroken c.read_on-answer.result → ⊥ = λ broken. false≢true (c.if-is_broken.ensures.1 broken) in
    let said = stops_told g.S.Stage.kind g.D.Desk.tells g.start (state (g.D.Desk.reading c.read_on-answer.new.desk) (g.D.Desk.writing c.read_on-answer.new.desk)) c.read_on-answer.new.stage c.read_on-answer.new.outputs c.read_on-answer.result
    c.read_on-answer.ensures.stops whole in
    touches_answered g.D.Desk.tells g.start.base_in g.start.base_out _ _ _ c.read_on-answer.result (Err NoMemory)
    whole c.read_on-answer.ensures.touches (rw c.in-Err-NoMemory.field-0-is at c.in-Err-NoMemory.ensures.touches g.start.base_out g.start.names said.0 said.1)

pub returns-in-Ok-finish-clause-alone : goal.returns-in-Ok-finish-clause-alone
returns-in-Ok-finish-clause-alone g c = λ none. let ran = c.read_on-answer.ensures.alone none in (c.in-Ok-finish.ensures.inputs ∙ ran.0, ran.1)

pub returns-in-Err-Failed-clause-alone : goal.returns-in-Err-Failed-clause-alone
returns-in-Err-Failed-clause-alone g c = λ none. (c.in-Err-Failed.ensures.inputs ∙ (c.read_on-answer.ensures.alone none).0, no_fault)

pub returns-in-Err-NoMemory-clause-alone : goal.returns-in-Err-NoMemory-clause-alone
returns-in-Err-NoMemory-clause-alone g c = λ none. (c.in-Err-NoMemory.ensures.inputs ∙ (c.read_on-answer.ensures.alone none).0, no_unread)
