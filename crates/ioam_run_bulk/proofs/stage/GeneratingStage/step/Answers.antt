use Rattle.std.proofs.Common.{refl, arith}
use Rattle.ioam_report.specs.SumsText.{sums_text}
use Rattle.ioam_run_bulk.proofs.ReportLaws.{Adds-one, IsReport-of}
use Rattle.ioam_run_bulk.specs.StageLaws.{leading}
use Rattle.ioam_run_bulk.proofs.SendsLaws.{ends_said, on_err, takes_some, takes_sums}
use Rattle.ioam_run_bulk.proofs.stage.GeneratingStage.step.Goals as goal

pub returns-then-self-clause-steps : goal.returns-then-self-clause-steps
returns-then-self-clause-steps g c = ends_said _ _ c.args.self.now c.args.outputs.now c.if-self.true

pub returns-then-left-gt0-clause-steps : goal.returns-then-left-gt0-clause-steps
returns-then-left-gt0-clause-steps g c = takes_some _ _ c.args.self.now _ c.args.outputs.now c.args.outputs.now c.requires.width refl refl refl c.if-self.false c.if-self.false
    (omega (arith, c.min.ensures, c.if-left-gt0.true)) (omega (arith, c.min.ensures, c.if-left-gt0.true)) c.in_ok-take_some.ensures.loads

pub returns-clause-steps : goal.returns-clause-steps
returns-clause-steps g c =
    let terms = c.args.self.now.terms in
    let sums = c.run_rest.new.load.gathered.sums in
    takes_sums _ _ c.args.self.now _ c.args.outputs.now _ (sums_text terms.domain.now sums)
    (Adds-one c.args.outputs.now c.index-outputs-0.result _ (sums_text terms.domain.now sums) c.requires.width refl c.in_ok-put_sums.ensures.text)
    refl refl c.if-self.false refl
    (λ set. IsReport-of terms.seed terms.count terms.domain.now terms.readings.now sums set.domain set.readings c.run_rest.ensures.sums c.in_ok-put_sums.ensures.arrivals)

pub returns-in_err-take_some-clause-leads : goal.returns-in_err-take_some-clause-leads
returns-in_err-take_some-clause-leads g c = on_err c.from_residual.result _ (leading _ _ c.args.self.now)

pub returns-in_err-put_sums-clause-leads : goal.returns-in_err-put_sums-clause-leads
returns-in_err-put_sums-clause-leads g c = on_err c.from_residual-in_err-put_sums.result _ (leading _ _ c.args.self.now)
