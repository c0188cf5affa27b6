use Rattle.ioam_topo_generated.proofs.SoundLaws.{nodes_sound, links_sound, ports_sound, routes_sound, data_sound, flows_sound}
use Rattle.ioam_topo_generated.proofs.domain.bulk_domain.Goals as goal

pub new-requires-clause-nodes : goal.new-requires-clause-nodes
new-requires-clause-nodes c = nodes_sound c.in_ok-parts.ensures.nodes

pub new-requires-clause-links : goal.new-requires-clause-links
new-requires-clause-links c = links_sound c.in_ok-parts.ensures.nodes c.in_ok-parts.ensures.links

pub new-requires-clause-ports : goal.new-requires-clause-ports
new-requires-clause-ports c = ports_sound c.in_ok-parts.ensures.nodes c.in_ok-parts.ensures.ports

pub new-requires-clause-routes : goal.new-requires-clause-routes
new-requires-clause-routes c = routes_sound c.in_ok-parts.ensures.nodes c.in_ok-parts.ensures.links c.in_ok-parts.ensures.ports c.in_ok-parts.ensures.routes

pub new-requires-clause-data : goal.new-requires-clause-data
new-requires-clause-data c = data_sound _ c.in_ok-parts.ensures.data

pub new-requires-clause-flows : goal.new-requires-clause-flows
new-requires-clause-flows c = flows_sound c.in_ok-parts.ensures.nodes c.in_ok-parts.ensures.flows
