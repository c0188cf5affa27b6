use Rattle.ioam_run_bulk.proofs.SendsLaws.{begins_sends}
use Rattle.ioam_run_bulk.proofs.stage.GeneratingStage.begin.Goals as goal

pub returns-clause-begins : goal.returns-clause-begins
returns-clause-begins g c = begins_sends _ _ c.args.self.now c.args._outputs.now c.requires.width
