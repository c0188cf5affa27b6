use Rattle.std.proofs.Common.{refl}
use Rattle.ioam_run_ipfix.proofs.PackerLaws.{packer_closes}
use Rattle.ioam_run_ipfix.proofs.packer.PackerConverter.close.Goals as goal

pub returns : goal.returns
returns c = packer_closes c.args.self.now (record { reader = c.args.self.now.reader; packing = c.put_rest.new.self; cause = c.args.self.now.cause }) c.args.outputs.now
    c.index-outputs-0.result _ c.requires.width refl c.requires.stops c.in_ok-put_rest.ensures refl refl
