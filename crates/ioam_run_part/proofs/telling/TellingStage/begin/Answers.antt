use Rattle.ioam_run_part.proofs.TellingLaws.{telling_begins}
use Rattle.ioam_run_part.proofs.telling.TellingStage.begin.Goals as goal

pub returns-clause-begins : goal.returns-clause-begins
returns-clause-begins g c = telling_begins g.T.Source.says g.T.Source.left c.args.self.now c.args._outputs.now c.requires.width
