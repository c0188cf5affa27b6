use Rattle.std.proofs.Common.{refl}
use Rattle.ioam_base.specs.Words.{three_octets}
use Rattle.ioam_base.proofs.WrittenLaws.{written-from}
use Rattle.ioam_base.proofs.octets.put_u24_at.Goals as goal

pub returns : goal.returns
returns c = written-from c.args.octets.now (three_octets c.args.number) c.args.at 3 c.write_u24.new.buf refl c.requires.room c.write_u24.ensures
