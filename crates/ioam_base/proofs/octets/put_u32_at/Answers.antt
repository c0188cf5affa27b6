use Rattle.std.proofs.Common.{refl}
use Rattle.ioam_base.specs.Words.{four_octets}
use Rattle.ioam_base.proofs.WrittenLaws.{written-from}
use Rattle.ioam_base.proofs.octets.put_u32_at.Goals as goal

pub returns : goal.returns
returns c = written-from c.args.octets.now (four_octets c.args.number) c.args.at 4 c.write_u32.new.buf refl c.requires c.write_u32.ensures
