use Rattle.ioam_run_audit.proofs.ComparisonLaws.{all_said, closing_leads, judging_leads}
use Rattle.ioam_run_audit.proofs.CursorLaws.{on_err}
use Rattle.ioam_run_audit.proofs.comparison.ComparisonStage.step.Goals as goal

pub returns-in-Closed-clause-steps : goal.returns-in-Closed-clause-steps
returns-in-Closed-clause-steps c = all_said c.args.self.now c.args.outputs.now c.in-Closed.is

pub returns-in-Closing-clause-leads : goal.returns-in-Closing-clause-leads
returns-in-Closing-clause-leads c = on_err c.close.result _ (closing_leads c.args.self.now c.in-Closing.is)

pub returns-in-Asked-clause-leads : goal.returns-in-Asked-clause-leads
returns-in-Asked-clause-leads c = on_err c.look_ahead.result _ (judging_leads c.args.self.now c.in-Judging.is)

pub returns-in-Open : goal.returns-in-Open
returns-in-Open c = record { steps = c.judge.ensures; leads = on_err c.judge.result _ (judging_leads c.args.self.now c.in-Judging.is) }
