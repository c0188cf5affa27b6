use Rattle.ioam_run_traffic.specs.StageLaws.{leading}
use Rattle.ioam_run_traffic.proofs.StepsLaws.{ends_closed, if_ok, on_err}
use Rattle.ioam_run_traffic.proofs.stage.TrafficStage.step.Goals as goal

pub returns-in-Taking : goal.returns-in-Taking
returns-in-Taking g c = record {
  steps = if_ok _ _ c.take.result c.take.ensures (λ step steps. steps g.G.Gate.opens c.requires.stands);
  leads = on_err c.take.result _ (leading _ _ _ c.args.self.now);
}

pub returns-in-Waiting : goal.returns-in-Waiting
returns-in-Waiting g c = record {
  steps = if_ok _ _ c.wait.result c.wait.ensures (λ step steps. steps g.G.Gate.opens c.requires.stands);
  leads = on_err c.wait.result _ (leading _ _ _ c.args.self.now);
}

pub returns-in-Closing : goal.returns-in-Closing
returns-in-Closing g c = record {
  steps = if_ok _ _ c.close.result c.close.ensures (λ step steps. steps g.G.Gate.opens c.requires.stands);
  leads = on_err c.close.result _ (leading _ _ _ c.args.self.now);
}

pub returns-in-Closed-clause-steps : goal.returns-in-Closed-clause-steps
returns-in-Closed-clause-steps g c = ends_closed _ _ _ c.args.self.now c.args.outputs.now c.in-Closed.is
