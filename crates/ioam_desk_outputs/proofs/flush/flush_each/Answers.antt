use Rattle.std.proofs.Common.{◌<◌, ◌∙◌, length, Err, arith}
use Rattle.ioam_desk.specs.Touches.{state, Quiet, failing_out}
use Rattle.ioam_desk_outputs.proofs.FlushLaws.{kept_more, keeps_more, open_more, few_more, few_all, leaves_some, touches_more}
use Rattle.ioam_desk_outputs.proofs.flush.flush_each.Goals as goal

pub outputs-preserved : goal.outputs-preserved
outputs-preserved g c =
    let inside : c.outputs.output-index < length c.outputs.outputs = omega arith in
    record {
      told = keeps_more _ _ _ c.outputs.outputs c.outputs.output-index c.output-item.result c.flush_from.new.output _ _
          inside c.in-Ok.ensures.moved c.outputs.invariant.told;
      kept = kept_more g.D.Desk.tells c.args.least (g.D.Desk.writing c.args.desk.now) (g.D.Desk.writing c.outputs.desk) (g.D.Desk.writing c.flush_from.new.desk)
          c.args.outputs.now c.outputs.outputs c.outputs.output-index c.output-item.result c.flush_from.new.output
          inside c.in-Ok.ensures.kept c.outputs.invariant.kept c.in-Ok.ensures.moved;
      are_open = open_more _ _ _ c.outputs.outputs c.outputs.output-index c.output-item.result c.flush_from.new.output
          inside c.in-Ok.ensures.moved c.outputs.invariant.are_open;
      few = few_more c.args.least c.outputs.outputs c.outputs.output-index c.flush_from.new.output
          inside c.in-Ok.ensures.few c.outputs.invariant.few;
      inputs = c.in-Ok.ensures.inputs ∙ c.outputs.invariant.inputs;
      touches = λ slot names texts told. touches_more g.D.Desk.tells (state (g.D.Desk.reading c.args.desk.now) (g.D.Desk.writing c.args.desk.now)) (state (g.D.Desk.reading c.outputs.desk) (g.D.Desk.writing c.outputs.desk))
          (state (g.D.Desk.reading c.flush_from.new.desk) (g.D.Desk.writing c.flush_from.new.desk)) Quiet c.outputs.outputs c.outputs.output-index c.output-item.result slot names texts inside
          (c.outputs.invariant.told slot names texts told) (c.outputs.invariant.touches slot names texts told) c.in-Ok.ensures.touches;
    }

pub returns-clause-few : goal.returns-clause-few
returns-clause-few g c = few_all c.args.least c.outputs.outputs c.outputs.output-index (omega arith) c.outputs.invariant.few

pub returns-in-Err-clause-told : goal.returns-in-Err-clause-told
returns-in-Err-clause-told g c =
    let inside : c.outputs.output-index < length c.outputs.outputs = omega arith in
    keeps_more _ _ _ c.outputs.outputs c.outputs.output-index c.output-item.result c.flush_from.new.output _ _
    inside c.in-Err.ensures.moved c.outputs.invariant.told

pub returns-in-Err-clause-kept : goal.returns-in-Err-clause-kept
returns-in-Err-clause-kept g c =
    let inside : c.outputs.output-index < length c.outputs.outputs = omega arith in
    (kept_more g.D.Desk.tells c.args.least (g.D.Desk.writing c.args.desk.now) (g.D.Desk.writing c.outputs.desk) (g.D.Desk.writing c.flush_from.new.desk)
    c.args.outputs.now c.outputs.outputs c.outputs.output-index c.output-item.result c.flush_from.new.output
    inside c.in-Err.ensures.kept c.outputs.invariant.kept c.in-Err.ensures.moved).kept

pub returns-in-Err-clause-left : goal.returns-in-Err-clause-left
returns-in-Err-clause-left g c =
    let inside : c.outputs.output-index < length c.outputs.outputs = omega arith in
    leaves_some c.args.least (g.D.Desk.writing c.args.desk.now) (g.D.Desk.writing c.outputs.desk)
    c.args.outputs.now c.outputs.outputs c.outputs.output-index c.output-item.result c.flush_from.new.output
    inside c.in-Err.ensures.full c.in-Err.ensures.left c.outputs.invariant.kept

pub returns-in-Err-clause-open : goal.returns-in-Err-clause-open
returns-in-Err-clause-open g c =
    let inside : c.outputs.output-index < length c.outputs.outputs = omega arith in
    open_more _ _ _ c.outputs.outputs c.outputs.output-index c.output-item.result c.flush_from.new.output
    inside c.in-Err.ensures.moved c.outputs.invariant.are_open

pub returns-in-Err-clause-touches : goal.returns-in-Err-clause-touches
returns-in-Err-clause-touches g c =
    let inside : c.outputs.output-index < length c.outputs.outputs = omega arith in
    λ slot names texts told. touches_more g.D.Desk.tells (state (g.D.Desk.reading c.args.desk.now) (g.D.Desk.writing c.args.desk.now)) (state (g.D.Desk.reading c.outputs.desk) (g.D.Desk.writing c.outputs.desk))
    (state (g.D.Desk.reading c.flush_from.new.desk) (g.D.Desk.writing c.flush_from.new.desk)) (failing_out {A = Unit {0}} (Err c.in-Err.fault)) c.outputs.outputs c.outputs.output-index c.output-item.result slot names texts inside
    (c.outputs.invariant.told slot names texts told) (c.outputs.invariant.touches slot names texts told) c.in-Err.ensures.touches
