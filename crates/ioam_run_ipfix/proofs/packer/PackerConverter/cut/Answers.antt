use Rattle.ioam_run_ipfix.proofs.PackerLaws.{packer_cut}
use Rattle.ioam_run_ipfix.proofs.packer.PackerConverter.cut.Goals as goal

pub returns : goal.returns
returns c = packer_cut c.args.self.now c.requires.waits
