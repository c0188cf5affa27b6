use Rattle.std.proofs.Common.{◌≡◌, ◌≤◌, length, ap, sym, ◌∙◌, arith}
use Rattle.std.proofs.lemmas.Bool.Decides.{nat_tests}
use Rattle.ioam_topo.specs.Domain.{nodes, links, ports, routes}
use Rattle.ioam_topo.proofs.RankedLaws.{no_ranked}
use Rattle.ioam_topo.proofs.domain.Domain.routes_at.Goals as goal

pub returns-in-None : goal.returns-in-None
returns-in-None c =
    let size : length c.deref.result.now ≡ length (nodes c.args.self.now) = ap length c.deref.ensures.value ∙ c.args.self.now.indexed.all in
    let none = c.in-None.ensures.lookup in
    let past : length (nodes c.args.self.now) ≤ c.args.node.0 = grind (arith, nat_tests, size, none) in
    sym (no_ranked (length (nodes c.args.self.now)) c.args.node.0 (links c.args.self.now) (ports c.args.self.now) (routes c.args.self.now) c.args.self.now.sound_routes.routed past)
