use Rattle.ioam_run_audit.proofs.ComparisonLaws.{cuts}
use Rattle.ioam_run_audit.proofs.comparison.ComparisonStage.cut.Goals as goal

pub returns : goal.returns
returns c = cuts c.args.self.now c.args._input c.requires.waits
