use Rattle.ioam_node_visit.proofs.exits.leave.Goals as goal

pub unreachable-requires : goal.unreachable-requires
unreachable-requires c = c.in-None.ensures.there c.requires.place c.requires.is_packet c.requires.carries
