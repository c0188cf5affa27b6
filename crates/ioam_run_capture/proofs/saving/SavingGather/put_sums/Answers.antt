use Rattle.ioam_run_stream.proofs.AddsLaws.{Adds-none}
use Rattle.ioam_run_capture.proofs.saving.SavingGather.put_sums.Goals as goal

pub returns : goal.returns
returns c = Adds-none c.args._outputs.now c.requires.width
