use Rattle.std.proofs.Common.{refl}
use Rattle.ioam_run_ipfix.proofs.PackerLaws.{packer_finishes}
use Rattle.ioam_run_ipfix.proofs.packer.PackerConverter.finish.Goals as goal

pub returns : goal.returns
returns c = packer_finishes c.args.self.now (record { reader = c.args.self.now.reader; packing = c.args.self.now.packing; cause = c.end_cause-self.result }) c.finish.result
    c.end_cause-self.ensures refl refl c.finish.ensures.reads
