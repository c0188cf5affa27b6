use Rattle.std.proofs.Common.{rules, arith}
use Rattle.std.proofs.lemmas.Grind.{common_steps}
use Rattle.ioam_ip.proofs.FitLaws.{first_fits}
use Rattle.ioam_tunnel.proofs.inside.first_other.Goals as goal

pub loop-head-preserved : goal.loop-head-preserved
loop-head-preserved c = (
  search rules,
  search rules,
  grind (arith, common_steps),
  (first_fits c.args.packet.now c.in-Some.head _ _ c.in-Some.ensures.steps c.loop-head.invariant.3).1,
)
