use Rattle.ioam_topo_flows.proofs.ExtraLaws.{extras_none}
use Rattle.ioam_topo_flows.proofs.reading.read_extras.Goals as goal

pub read_entries-requires-clause-none : goal.read_entries-requires-clause-none
read_entries-requires-clause-none c = extras_none c.args.nodes.now c.args.flows.now c.new-none.result c.requires.base c.new-none.ensures.items c.new-none.ensures.places c.new-none.ensures.keys
