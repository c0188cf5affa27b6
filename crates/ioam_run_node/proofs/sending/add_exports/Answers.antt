use Rattle.std.proofs.Common.{refl}
use Rattle.ioam_run_node.proofs.PassingLaws.{Adds-third}
use Rattle.ioam_run_node.proofs.sending.add_exports.Goals as goal

pub returns : goal.returns
returns c = Adds-third _ _ _ _ c.requires refl c.in_ok-append.ensures
