use Rattle.std.proofs.Common.{rules, map, refl}
use Rattle.ioam_topo.specs.Domain.{routes}
use Rattle.ioam_topo.specs.Keyed.{key_of_route}
use Rattle.ioam_topo.proofs.ForwardLaws.{route_found, route_missing}
use Rattle.ioam_topo.proofs.domain.Domain.route_by.Goals as goal

pub returns-in-Some : goal.returns-in-Some
returns-in-Some c = route_found (routes c.args.self.now) (map key_of_route (routes c.args.self.now)) c.args.node.0 c.args.target c.args.length c.in-Some.at c.route.result
    refl (search rules) c.route.ensures

pub returns-in-None : goal.returns-in-None
returns-in-None c = route_missing (routes c.args.self.now) (map key_of_route (routes c.args.self.now)) c.args.node.0 c.args.target c.args.length refl (search rules)
