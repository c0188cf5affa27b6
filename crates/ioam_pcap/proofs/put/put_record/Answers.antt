use Rattle.ioam_pcap.proofs.TextLaws.{adds_by, adds_reading}
use Rattle.ioam_pcap.proofs.put.put_record.Goals as goal

pub returns-clause-adds : goal.returns-clause-adds
returns-clause-adds c = λ sent was.
    adds_by c.args.out.now.items c.append_record.new.out.items c.args.time c.args.packet.now sent c.append_record.result c.append_record.ensures was

pub returns-clause-reads : goal.returns-clause-reads
returns-clause-reads c = λ sent fits was.
    adds_reading c.args.out.now.items c.append_record.new.out.items c.args.time c.args.packet.now sent c.append_record.result c.append_record.ensures c.requires fits was
