use Rattle.std.proofs.Common.{◌+◌, ◌∙◌, refl, arith}
use Rattle.ioam_run_texts.proofs.AddsLaws.{Adds-length}
use Rattle.ioam_run_arrivals.proofs.TellsLaws.{TellsJobs-all, TellsJobs-next, TellsJobs-none}
use Rattle.ioam_run_arrivals.proofs.telling.put_jobs.Goals as goal

pub jobs-init : goal.jobs-init
jobs-init c = record { number = omega arith; width = c.requires.width; tells = TellsJobs-none c.args.domain.now c.args.told c.args.outputs.now c.requires.width }

pub jobs-preserved : goal.jobs-preserved
jobs-preserved c =
    let added = c.in_ok-put_job.ensures.texts in
    record {
      number = omega (arith, c.jobs.invariant.number);
      width = Adds-length c.jobs.outputs c.put_job.new.outputs added.0 added.1 ∙ c.jobs.invariant.width;
      tells = TellsJobs-next c.args.domain.now c.args.told c.jobs.job-index c.jobs.number (c.jobs.number + 1) c.args.jobs.now c.job-item.result
          c.args.outputs.now c.jobs.outputs c.put_job.new.outputs (omega arith) c.job-item.is c.jobs.invariant.number refl c.jobs.invariant.tells added;
    }

pub returns : goal.returns
returns c = TellsJobs-all c.args.domain.now c.args.told c.jobs.job-index c.args.jobs.now c.args.outputs.now c.jobs.outputs (omega arith) c.jobs.invariant.tells
