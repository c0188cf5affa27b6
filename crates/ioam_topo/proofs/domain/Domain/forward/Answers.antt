use Rattle.std.proofs.Common.{Some, None, length}
use Rattle.ioam_topo.proofs.ForwardLaws.{way_is, way_inside}
use Rattle.ioam_topo.proofs.domain.Domain.forward.Goals as goal

pub returns-in-Some-clause-longest : goal.returns-in-Some-clause-longest
returns-in-Some-clause-longest c = way_is c.args.self.now.parts.routes.items c.args.node.0 c.args.target (Some c.in-Some.route) c.in-Some.ensures

pub returns-in-Some-clause-inside : goal.returns-in-Some-clause-inside
returns-in-Some-clause-inside c = way_inside (length c.args.self.now.parts.nodes.items) c.args.self.now.parts.links.items c.args.self.now.parts.ports.items
    c.args.self.now.parts.routes.items c.args.node.0 c.args.target c.in-Some.route c.args.self.now.sound_routes.routed c.in-Some.ensures

pub returns-in-None-clause-longest : goal.returns-in-None-clause-longest
returns-in-None-clause-longest c = way_is c.args.self.now.parts.routes.items c.args.node.0 c.args.target None c.in-None.ensures
