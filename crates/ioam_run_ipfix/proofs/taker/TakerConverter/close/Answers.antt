use Rattle.ioam_run_ipfix.proofs.TakerLaws.{taker_closes}
use Rattle.ioam_run_ipfix.proofs.taker.TakerConverter.close.Goals as goal

pub returns : goal.returns
returns c = taker_closes c.args.self.now c.args._outputs.now c.requires.width
