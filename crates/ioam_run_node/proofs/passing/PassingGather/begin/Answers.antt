use Rattle.std.proofs.Common.{refl}
use Rattle.ioam_run_node.proofs.PassingLaws.{Adds-first}
use Rattle.ioam_run_node.proofs.passing.PassingGather.begin.Goals as goal

pub returns-clause-adds : goal.returns-clause-adds
returns-clause-adds c = Adds-first _ _ _ _ c.requires.width refl c.in_ok-put_head.ensures.octets
