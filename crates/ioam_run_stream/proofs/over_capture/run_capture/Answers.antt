use Rattle.std.proofs.Common.{◌∙◌, ap, subst}
use Rattle.ioam_desk.specs.Touches.{state}
use Rattle.ioam_desk.proofs.TouchesLaws.{touches-kept_out}
use Rattle.ioam_run_stream.specs.Promise.{Leaves}
use Rattle.ioam_run_stream.specs.declared.captured.Captured.{Captured}
use Rattle.ioam_run_stream.proofs.AnswersLaws.{framed_one, left_one, run_cause, run_leaves, run_drained}
use Rattle.ioam_stream.specs.Frame.{failing_all}
use Rattle.ioam_run_stream.proofs.over_capture.run_capture.Goals as goal

pub returns-clause-cause : goal.returns-clause-cause
returns-clause-cause g c =
    let old = state (g.D.Desk.reading c.args.desk.now) (g.D.Desk.writing c.args.desk.now) in
    let new = state (g.D.Desk.reading c.run-stop.new.desk) (g.D.Desk.writing c.run-stop.new.desk) in
    let begun = c.new-stage.result.converter in
    let last = c.run-stop.new.stage.converter in
    run_cause g.G.Gather.gathers g.G.Gather.count g.G.Gather.width g.G.Gather.fresh g.G.Gather.texts c.args.input.now c.args.names.now c.args.limit begun last (ap (λ (captured : Captured _). captured.limit) c.new-stage.ensures.same ∙ c.in-Ok.ensures.limit) g.D.Desk.tells old new c.stop_outcome.result c.run-stop.result c.stop_outcome.ensures
    (framed_one g.G.Gather.gathers g.G.Gather.count g.G.Gather.width g.G.Gather.fresh g.G.Gather.texts c.args.input.now c.args.names.now c.args.limit begun last (ap (λ (captured : Captured _). captured.limit) c.new-stage.ensures.same ∙ c.in-Ok.ensures.limit) g.D.Desk.tells old new c.stop_outcome.result c.run-stop.result c.from_ref.result.now c.from_ref.ensures.value c.run-stop.ensures.frame)
    (left_one g.G.Gather.gathers g.G.Gather.count g.G.Gather.width g.G.Gather.fresh g.G.Gather.texts c.args.input.now c.args.names.now c.args.limit begun last (ap (λ (captured : Captured _). captured.limit) c.new-stage.ensures.same ∙ c.in-Ok.ensures.limit) g.D.Desk.tells old new c.stop_outcome.result c.run-stop.result c.from_ref.result.now c.from_ref.ensures.value c.run-stop.ensures.leaves)

pub returns-clause-leaves : goal.returns-clause-leaves
returns-clause-leaves g c = λ told.
    let old = state (g.D.Desk.reading c.args.desk.now) (g.D.Desk.writing c.args.desk.now) in
    let new = state (g.D.Desk.reading c.run-stop.new.desk) (g.D.Desk.writing c.run-stop.new.desk) in
    let begun = c.new-stage.result.converter in
    let last = c.run-stop.new.stage.converter in
    let P : _ → Type 0 = λ gathered. Leaves c.args.limit (g.G.Gather.texts gathered) c.args.names.now c.args.input.now old.inputs new.inputs old.outputs new.outputs c.stop_outcome.result in
    subst P (ap (λ (captured : Captured _). captured.gathered) c.new-stage.ensures.same ∙ c.in-Ok.ensures.gathered)
    (run_leaves g.G.Gather.gathers g.G.Gather.count g.G.Gather.width g.G.Gather.fresh g.G.Gather.texts c.args.input.now c.args.names.now c.args.limit begun last (ap (λ (captured : Captured _). captured.limit) c.new-stage.ensures.same ∙ c.in-Ok.ensures.limit) g.D.Desk.tells old new c.stop_outcome.result c.run-stop.result c.stop_outcome.ensures
    (framed_one g.G.Gather.gathers g.G.Gather.count g.G.Gather.width g.G.Gather.fresh g.G.Gather.texts c.args.input.now c.args.names.now c.args.limit begun last (ap (λ (captured : Captured _). captured.limit) c.new-stage.ensures.same ∙ c.in-Ok.ensures.limit) g.D.Desk.tells old new c.stop_outcome.result c.run-stop.result c.from_ref.result.now c.from_ref.ensures.value c.run-stop.ensures.frame)
    (left_one g.G.Gather.gathers g.G.Gather.count g.G.Gather.width g.G.Gather.fresh g.G.Gather.texts c.args.input.now c.args.names.now c.args.limit begun last (ap (λ (captured : Captured _). captured.limit) c.new-stage.ensures.same ∙ c.in-Ok.ensures.limit) g.D.Desk.tells old new c.stop_outcome.result c.run-stop.result c.from_ref.result.now c.from_ref.ensures.value c.run-stop.ensures.leaves) told)

pub returns-clause-drained : goal.returns-clause-drained
returns-clause-drained g c =
    let old = state (g.D.Desk.reading c.args.desk.now) (g.D.Desk.writing c.args.desk.now) in
    let new = state (g.D.Desk.reading c.run-stop.new.desk) (g.D.Desk.writing c.run-stop.new.desk) in
    let begun = c.new-stage.result.converter in
    let last = c.run-stop.new.stage.converter in
    run_drained g.G.Gather.gathers g.G.Gather.count g.G.Gather.width g.G.Gather.fresh g.G.Gather.texts c.args.input.now c.args.names.now c.args.limit begun last (ap (λ (captured : Captured _). captured.limit) c.new-stage.ensures.same ∙ c.in-Ok.ensures.limit) g.D.Desk.tells old new c.stop_outcome.result c.run-stop.result c.stop_outcome.ensures
    (framed_one g.G.Gather.gathers g.G.Gather.count g.G.Gather.width g.G.Gather.fresh g.G.Gather.texts c.args.input.now c.args.names.now c.args.limit begun last (ap (λ (captured : Captured _). captured.limit) c.new-stage.ensures.same ∙ c.in-Ok.ensures.limit) g.D.Desk.tells old new c.stop_outcome.result c.run-stop.result c.from_ref.result.now c.from_ref.ensures.value c.run-stop.ensures.frame)
    (left_one g.G.Gather.gathers g.G.Gather.count g.G.Gather.width g.G.Gather.fresh g.G.Gather.texts c.args.input.now c.args.names.now c.args.limit begun last (ap (λ (captured : Captured _). captured.limit) c.new-stage.ensures.same ∙ c.in-Ok.ensures.limit) g.D.Desk.tells old new c.stop_outcome.result c.run-stop.result c.from_ref.result.now c.from_ref.ensures.value c.run-stop.ensures.leaves)

pub returns-clause-kept_out : goal.returns-clause-kept_out
returns-clause-kept_out g c = λ told.
    touches-kept_out g.D.Desk.tells c.from_ref.result.now c.args.names.now (failing_all c.run-stop.result) (state (g.D.Desk.reading c.args.desk.now) (g.D.Desk.writing c.args.desk.now))
    (state (g.D.Desk.reading c.run-stop.new.desk) (g.D.Desk.writing c.run-stop.new.desk)) told c.run-stop.ensures.frame.touches
