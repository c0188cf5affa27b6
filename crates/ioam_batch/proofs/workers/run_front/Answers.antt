use Rattle.std.proofs.Common.{List, take, sym, subst, ◌∙◌, arith}
use Rattle.std.specs.List.{AllZip}
use Rattle.std.proofs.lemmas.List.{drop_at, take_at}
use Rattle.ioam_batch.specs.Batches.{MayRun}
use Rattle.ioam_batch.specs.Jobs.{HasRun}
use Rattle.ioam_batch.specs.declared.job.Job.{Job}
use Rattle.ioam_batch.proofs.workers.run_front.Goals as goal

pub returns-clause-runs : goal.returns-clause-runs
returns-clause-runs g c = λ opened.
    let cut = c.split_at_mut-waiting in
    let waiting = c.run_chunks.new.jobs in
    let front = take_at waiting cut.result.1.now c.args.count (omega (arith, cut.ensures.front_len)) in
    let P : List Job → Type 0 = λ jobs. AllZip (HasRun c.args.domain.now c.args.readings.now) jobs waiting in
    let Q : List Job → Type 0 = λ jobs. AllZip (HasRun c.args.domain.now c.args.readings.now) (take c.args.count c.args.jobs.now) jobs in
    subst Q (sym front) (subst P cut.ensures.front (c.run_chunks.ensures.runs opened))

pub returns-clause-may : goal.returns-clause-may
returns-clause-may g c =
    let cut = c.split_at_mut-waiting in
    let waiting = c.run_chunks.new.jobs in
    let front = take_at waiting cut.result.1.now c.args.count (omega (arith, cut.ensures.front_len)) in
    let P : List Job → Type 0 = λ jobs. AllZip (MayRun c.args.domain.now c.args.readings.now) jobs waiting in
    let Q : List Job → Type 0 = λ jobs. AllZip (MayRun c.args.domain.now c.args.readings.now) (take c.args.count c.args.jobs.now) jobs in
    subst Q (sym front) (subst P cut.ensures.front c.run_chunks.ensures.may)

pub returns-clause-behind : goal.returns-clause-behind
returns-clause-behind g c =
    let cut = c.split_at_mut-waiting in
    drop_at c.run_chunks.new.jobs cut.result.1.now c.args.count (omega (arith, cut.ensures.front_len)) ∙ cut.ensures.back
