use Rattle.ioam_run_traffic.proofs.StepsLaws.{keeps_cut}
use Rattle.ioam_run_traffic.proofs.stage.TrafficStage.cut.Goals as goal

pub returns : goal.returns
returns g c = keeps_cut _ _ _ c.args.self.now c.args._input c.requires.waits.phase_is
