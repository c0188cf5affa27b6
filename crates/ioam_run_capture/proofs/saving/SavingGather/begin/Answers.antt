use Rattle.std.proofs.Common.{refl}
use Rattle.ioam_desk_outputs.proofs.ToldLaws.{Adds-few}
use Rattle.ioam_run_capture.specs.Saving.{heads}
use Rattle.ioam_run_stream.proofs.AddsLaws.{Adds-one}
use Rattle.ioam_run_capture.proofs.SavingLaws.{heads-few}
use Rattle.ioam_run_capture.proofs.saving.SavingGather.begin.Goals as goal

pub returns-clause-adds : goal.returns-clause-adds
returns-clause-adds c = Adds-one _ _ _ _ c.requires.width refl c.in_ok-put_ng_head.ensures.octets

pub returns-clause-waiting : goal.returns-clause-waiting
returns-clause-waiting c = Adds-few _ _ heads c.requires.nothing (Adds-one _ _ _ _ c.requires.width refl c.in_ok-put_ng_head.ensures.octets) heads-few
