use Rattle.ioam_base.proofs.WrittenLaws.{written-from}
use Rattle.ioam_pcap.proofs.numbers.put_at.Goals as goal

pub returns : goal.returns
returns g c = written-from c.args.octets.now (g.B.ByteOrder.bytes_of 4 c.args.number) c.args.at 4 c.write_u32.new.buf (g.met.B.ByteOrder.length_bytes 4 c.args.number) c.requires c.write_u32.ensures
