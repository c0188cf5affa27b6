use Rattle.std.proofs.Common.{refl}
use Rattle.ioam_base.proofs.ResultLaws.{OnOk-map}
use Rattle.ioam_run_stream.proofs.AddsLaws.{Adds-one}
use Rattle.ioam_run_delays.proofs.gathering.DelayingGather.put_sums.Goals as goal

pub returns : goal.returns
returns c = OnOk-map c.put_report.result _ _ c.put_report.ensures (λ adds. Adds-one _ _ _ _ c.requires.width refl adds)
