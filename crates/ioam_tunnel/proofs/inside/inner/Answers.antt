use Rattle.ioam_tunnel.proofs.InnerLaws.{gives-back}
use Rattle.ioam_tunnel.proofs.inside.inner.Goals as goal

pub returns-clause-back : goal.returns-clause-back
returns-clause-back c = gives-back c.args.packet.now c.inner_in.result c.inner_in.ensures.there
