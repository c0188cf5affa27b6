use Rattle.std.proofs.Common.{arith, subst, sym}
use Rattle.ioam_batch.specs.Jobs.{HasRun, IsFresh}
use Rattle.ioam_batch.specs.declared.job.Job.{Job}
use Rattle.ioam_batch.proofs.JobsLaws.{Reached-all, Reached-is, Reached-more}
use Rattle.ioam_batch.proofs.workers.run_each.Goals as goal

pub run_job-requires : goal.run_job-requires
run_job-requires c = Reached-is (HasRun c.args.domain.now c.args.readings.now) (IsFresh c.args.domain.now) c.args.jobs.now c.jobs.jobs c.jobs.job-index
    c.job-item.result c.jobs.invariant (omega arith) c.requires

pub jobs-preserved : goal.jobs-preserved
jobs-preserved c = Reached-more (HasRun c.args.domain.now c.args.readings.now) c.args.jobs.now c.jobs.jobs c.jobs.job-index c.job-item.result
    c.run_job.new.job c.jobs.invariant (omega arith) (omega arith) c.job-item.is
    (let P : Job → Type 0 = λ job. HasRun c.args.domain.now c.args.readings.now job c.run_job.new.job in subst P (sym c.job-item.is) c.run_job.ensures.runs)

pub returns : goal.returns
returns c = Reached-all (HasRun c.args.domain.now c.args.readings.now) c.args.jobs.now c.jobs.jobs c.jobs.job-index c.jobs.invariant (omega arith) (omega arith)
