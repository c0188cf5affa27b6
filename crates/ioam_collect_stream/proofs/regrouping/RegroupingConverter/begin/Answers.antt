use Rattle.ioam_collect_stream.proofs.RegroupingLaws.{opens}
use Rattle.ioam_collect_stream.proofs.regrouping.RegroupingConverter.begin.Goals as goal

pub returns-clause-opens : goal.returns-clause-opens
returns-clause-opens g c = opens g.T.Report.tells g.T.Report.rest g.T.Report.left g.T.Report.most c.args.self.now c.args._outputs.now c.requires.width
