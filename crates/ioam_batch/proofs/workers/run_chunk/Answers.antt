use Rattle.ioam_batch.proofs.JobsLaws.{may_all, may_none}
use Rattle.ioam_batch.proofs.workers.run_chunk.Goals as goal

pub returns-then-pass-clause-may : goal.returns-then-pass-clause-may
returns-then-pass-clause-may g c = may_all c.args.domain.now c.args.readings.now c.args.jobs.now c.run_each.new.jobs c.run_each.ensures

pub returns-else-pass-clause-may : goal.returns-else-pass-clause-may
returns-else-pass-clause-may g c = may_none c.args.domain.now c.args.readings.now c.args.jobs.now
