use Rattle.std.proofs.Common.{refl, sym, ◌∙◌}
use Rattle.ioam_run_answer.proofs.CallLaws.{IfOk-map}
use Rattle.ioam_collect_stream.proofs.RegroupingLaws.{says_first, says_next}
use Rattle.ioam_collect_stream.proofs.regrouping.RegroupingConverter.close.Goals as goal

pub returns-in-Some : goal.returns-in-Some
returns-in-Some g c = says_first g.T.Report.tells g.T.Report.rest g.T.Report.left g.T.Report.most c.args.self.now _ refl refl c.args.outputs.now c.index-outputs-0.result _ c.requires.width refl
    c.in-Some.collector c.in_ok-begin.field-0 c.requires.stops (sym c.take.ensures.value ∙ c.in-Some.is) c.take.ensures.after refl c.in_ok-begin.ensures

pub returns : goal.returns
returns g c = IfOk-map c.put.result _ _ (says_next g.T.Report.tells g.T.Report.rest g.T.Report.left g.T.Report.most c.args.self.now _ refl refl c.args.outputs.now c.index-outputs-0.result _
    c.requires.width refl (sym c.in_default.ensures.value) c.in-Some-report.report c.put.new.self c.in-Some-report.is c.in_default.ensures.after refl) c.put.ensures
