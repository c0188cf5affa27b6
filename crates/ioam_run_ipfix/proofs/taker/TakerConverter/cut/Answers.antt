use Rattle.ioam_run_ipfix.proofs.TakerLaws.{taker_cut}
use Rattle.ioam_run_ipfix.proofs.taker.TakerConverter.cut.Goals as goal

pub returns : goal.returns
returns c = taker_cut c.args.self.now c.requires.waits
