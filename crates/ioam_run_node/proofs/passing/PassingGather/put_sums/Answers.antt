use Rattle.std.proofs.Common.{refl}
use Rattle.ioam_base.proofs.ResultLaws.{OnOk-map}
use Rattle.ioam_run_node.proofs.PassingLaws.{Adds-second}
use Rattle.ioam_run_node.proofs.passing.PassingGather.put_sums.Goals as goal

pub returns : goal.returns
returns c = OnOk-map c.put_sums.result _ _ c.put_sums.ensures (λ is. Adds-second _ _ _ _ c.requires.width refl is)
