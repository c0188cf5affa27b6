use Rattle.std.proofs.Common.{refl}
use Rattle.std.specs.Int.{w128, to_be_bytes}
use Rattle.ioam_base.proofs.WrittenLaws.{written-from}
use Rattle.ioam_ip.proofs.codec.put_u128_at.Goals as goal

pub returns : goal.returns
returns c = written-from c.args.octets.now (to_be_bytes w128 c.args.number) c.args.at 16 c.write_u128.new.buf refl c.requires c.write_u128.ensures
