use Rattle.ioam_ng.proofs.TextLaws.{begins_by, begins_reading}
use Rattle.ioam_ng.proofs.put.put_ng_head.Goals as goal

pub returns-clause-begins : goal.returns-clause-begins
returns-clause-begins c = begins_by c.append_blocks.result c.args.out.now.items c.append_blocks.new.out.items c.append_blocks.ensures

pub returns-clause-reads : goal.returns-clause-reads
returns-clause-reads c = begins_reading c.append_blocks.result c.args.out.now.items c.append_blocks.new.out.items c.append_blocks.ensures
