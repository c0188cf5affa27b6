use Rattle.ioam_trace.proofs.ConcatLaws.{All-elements_of}
use Rattle.ioam_trace.proofs.elements.Elements.new.Goals as goal

pub returns-clause-whole : goal.returns-clause-whole
returns-clause-whole c = All-elements_of c.args.kind c.args.node_len c.args.used.now
