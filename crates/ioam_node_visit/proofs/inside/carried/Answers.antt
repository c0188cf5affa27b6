use Rattle.ioam_node_visit.proofs.CarriedLaws.{carried-closed}
use Rattle.ioam_node_visit.proofs.inside.carried.Goals as goal

pub returns-clause-back : goal.returns-clause-back
returns-clause-back c domain readings tunnel visits last is is_packet sound same =
    carried-closed domain readings tunnel is c.args.packet.now c.inner.result c.inner.ensures.back visits last is_packet sound same
