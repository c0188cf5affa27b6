use Rattle.std.proofs.Common.{refl}
use Rattle.ioam_base.specs.Words.{eight_octets}
use Rattle.ioam_base.proofs.WrittenLaws.{written-from}
use Rattle.ioam_base.proofs.octets.put_u64_at.Goals as goal

pub returns : goal.returns
returns c = written-from c.args.octets.now (eight_octets c.args.number) c.args.at 8 c.write_u64.new.buf refl c.requires c.write_u64.ensures
