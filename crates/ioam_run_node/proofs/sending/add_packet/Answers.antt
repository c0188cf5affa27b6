use Rattle.std.proofs.Common.{refl}
use Rattle.ioam_run_node.proofs.PassingLaws.{Adds-first}
use Rattle.ioam_run_node.proofs.sending.add_packet.Goals as goal

pub returns : goal.returns
returns c = Adds-first _ _ _ _ c.requires.width refl c.in_ok-put_record.ensures.octets
