use Rattle.ioam_batch.specs.Jobs.{HasRun}
use Rattle.ioam_batch.proofs.JobsLaws.{Reached}
use Rattle.ioam_batch.proofs.workers.run_each.Given as goal

-- those so far ran, and the others are as they were
abbrev pub invariant-jobs : goal.invariant-jobs
invariant-jobs l = Reached (HasRun l.domain l.readings) l.initial.jobs l.jobs l.job-index
