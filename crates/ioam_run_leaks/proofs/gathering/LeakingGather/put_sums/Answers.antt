use Rattle.std.proofs.Common.{refl}
use Rattle.ioam_base.proofs.ResultLaws.{OnOk-map}
use Rattle.ioam_run_stream.proofs.AddsLaws.{Adds-second}
use Rattle.ioam_run_leaks.proofs.gathering.LeakingGather.put_sums.Goals as goal

pub returns : goal.returns
returns c = OnOk-map c.put_totals.result _ _ c.put_totals.ensures (λ adds. Adds-second _ _ _ _ c.requires.width refl adds)
