use Rattle.std.proofs.Common.{List, ◌++◌, subst, sym}
use Rattle.std.specs.List.{AllZip}
use Rattle.ioam_batch.specs.Batches.{MayRun}
use Rattle.ioam_batch.specs.Jobs.{HasRun}
use Rattle.ioam_batch.specs.declared.job.Job.{Job}
use Rattle.ioam_batch.proofs.JobsLaws.{AllZip-both}
use Rattle.ioam_batch.proofs.workers.+chunks.Goals as goal

pub run_chunks-returns-clause-runs : goal.run_chunks-returns-clause-runs
run_chunks-returns-clause-runs g t c = λ open'.
    let ran = HasRun c.args.domain.now c.args.readings.now in
    let P : List Job → Type 0 = λ jobs. AllZip ran jobs (c.run_beside.new.first ++ c.run_beside.new.others) in
    let cut = c.split_at_mut-first in
    subst P (sym cut.ensures.value) (AllZip-both ran cut.result.0.now cut.result.1.now c.run_beside.new.first c.run_beside.new.others
    (c.run_beside.ensures.first_runs open') (c.run_beside.ensures.others_run open'))

pub run_chunks-returns-clause-may : goal.run_chunks-returns-clause-may
run_chunks-returns-clause-may g t c =
    let may = MayRun c.args.domain.now c.args.readings.now in
    let P : List Job → Type 0 = λ jobs. AllZip may jobs (c.run_beside.new.first ++ c.run_beside.new.others) in
    let cut = c.split_at_mut-first in
    subst P (sym cut.ensures.value) (AllZip-both may cut.result.0.now cut.result.1.now c.run_beside.new.first c.run_beside.new.others
    c.run_beside.ensures.first_may c.run_beside.ensures.others_may)
