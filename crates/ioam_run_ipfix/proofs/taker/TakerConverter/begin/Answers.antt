use Rattle.ioam_desk_outputs.proofs.ToldLaws.{Nothing-few}
use Rattle.ioam_run_ipfix.proofs.TakerLaws.{taker_opens}
use Rattle.ioam_run_ipfix.proofs.taker.TakerConverter.begin.Goals as goal

pub returns-clause-opens : goal.returns-clause-opens
returns-clause-opens c = taker_opens c.args.self.now c.args._outputs.now c.requires.width

pub returns-clause-few : goal.returns-clause-few
returns-clause-few c = Nothing-few c.args._outputs.now c.requires.nothing
