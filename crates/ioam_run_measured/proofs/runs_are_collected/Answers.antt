use Rattle.ioam_run_measured.proofs.MeasuredLaws.{run-then-collect}
use Rattle.ioam_run_measured.proofs.runs_are_collected.Goals as goal

pub returns : goal.returns
returns c = run-then-collect
