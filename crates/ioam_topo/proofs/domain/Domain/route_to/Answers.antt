use Rattle.std.proofs.Common.{ap, option_map, ◌∙◌, arith}
use Rattle.std.specs.List.{find}
use Rattle.ioam_topo.specs.Domain.{routes}
use Rattle.ioam_topo.specs.Index.{takes}
use Rattle.ioam_topo.proofs.RankedLaws.{found_longest}
use Rattle.ioam_topo.proofs.domain.Domain.route_to.Goals as goal

pub returns-then-own-le-FEW : goal.returns-then-own-le-FEW
returns-then-own-le-FEW c = c.first_of.ensures ∙ ap (λ own. option_map (λ route. route.route) (find (takes c.args.target) own)) c.routes_at-own.ensures
    ∙ found_longest (routes c.args.self.now) c.args.node.0 c.args.target (λ k d lt. (c.args.self.now.sound_routes.prefixes k d lt).short) (omega (arith, c.ranges.target))
