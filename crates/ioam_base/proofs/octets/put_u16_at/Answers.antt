use Rattle.std.proofs.Common.{refl}
use Rattle.ioam_base.specs.Words.{two_octets}
use Rattle.ioam_base.proofs.WrittenLaws.{written-from}
use Rattle.ioam_base.proofs.octets.put_u16_at.Goals as goal

pub returns : goal.returns
returns c = written-from c.args.octets.now (two_octets c.args.number) c.args.at 2 c.write_u16.new.buf refl c.requires c.write_u16.ensures
