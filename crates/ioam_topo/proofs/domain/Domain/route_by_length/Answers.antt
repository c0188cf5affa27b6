use Rattle.std.proofs.Common.{ap, ◌∙◌, drop}
use Rattle.ioam_topo.specs.Domain.{routes}
use Rattle.ioam_topo.specs.Index.{first_there}
use Rattle.ioam_topo.proofs.IndexLaws.{by_length, first_length}
use Rattle.ioam_topo.proofs.domain.Domain.route_by_length.Goals as goal

pub loop-length-init : goal.loop-length-init
loop-length-init c = ap (λ ns. first_there (by_length (routes c.args.self.now) c.args.node.0 c.args.target) (drop 0 ns)) c.lengths_at-length-items.ensures
    ∙ first_length (routes c.args.self.now) c.args.node.0 c.args.target (λ k d lt. (c.args.self.now.sound_routes.prefixes k d lt).short)
