use Rattle.std.proofs.Common.{refl}
use Rattle.ioam_run_node.proofs.PassingLaws.{Adds-second}
use Rattle.ioam_run_node.proofs.sending.add_lines.Goals as goal

pub returns : goal.returns
returns c = Adds-second _ _ _ _ c.requires refl c.in_ok-put_sent.ensures
