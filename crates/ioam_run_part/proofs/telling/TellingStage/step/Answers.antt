use Rattle.std.proofs.Common.{true, refl}
use Rattle.ioam_run_part.specs.Telling.{leading}
use Rattle.ioam_run_part.proofs.TellingLaws.{telling_takes}
use Rattle.ioam_stream.proofs.ConversionLaws.{on_err}
use Rattle.ioam_stream.specs.declared.conversion.Tail.TheVariants as tail
use Rattle.ioam_run_part.proofs.telling.TellingStage.step.Goals as goal

pub returns-in-Rest-clause-steps : goal.returns-in-Rest-clause-steps
returns-in-Rest-clause-steps g c = telling_takes g.T.Source.says g.T.Source.left c.args.self.now (record { source = c.put.new.self; done = c.args.self.now.done; fed = c.args.self.now.fed }) c.args.outputs.now c.index-outputs-0.result _
    c.requires.width refl c.if-self.false refl tail.Rest c.if-self.false (rw c.in-Rest.is at c.in_ok-put.ensures)

pub returns-in-End-clause-steps : goal.returns-in-End-clause-steps
returns-in-End-clause-steps g c = telling_takes g.T.Source.says g.T.Source.left c.args.self.now (record { source = c.put.new.self; done = true; fed = c.args.self.now.fed }) c.args.outputs.now c.index-outputs-0.result _
    c.requires.width refl c.if-self.false refl tail.End refl (rw c.in-End.is at c.in_ok-put.ensures)

pub returns-in_err-put-clause-leads : goal.returns-in_err-put-clause-leads
returns-in_err-put-clause-leads g c = on_err c.from_residual.result _ (leading g.T.Source.says g.T.Source.left c.args.self.now)
