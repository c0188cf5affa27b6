use Rattle.ioam_topo_network.proofs.route_table.route_node.Goals as goal

pub returns : goal.returns
returns c = c.known.ensures.value
