use Rattle.std.proofs.Common.{refl}
use Rattle.ioam_run_ipfix.proofs.TakerLaws.{taker_finishes}
use Rattle.ioam_run_ipfix.proofs.taker.TakerConverter.finish.Goals as goal

pub returns : goal.returns
returns c = taker_finishes c.args.self.now (record { reader = c.args.self.now.reader; room = c.args.self.now.room; given = c.args.self.now.given; cause = c.end_cause-self.result })
    c.finish.result c.requires.waits c.end_cause-self.ensures refl c.finish.ensures.reads
