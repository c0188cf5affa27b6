use Rattle.std.proofs.Common.{◌+◌, List, length, refl, sym, ap}
use Rattle.ioam_batch.specs.Batches.{MayRun}
use Rattle.ioam_batch.specs.declared.job.Job.{Job}
use Rattle.ioam_run_arrivals.proofs.ForwardsLaws.{Forwards-skip, IsOf-tell}
use Rattle.ioam_run_arrivals.proofs.TellsLaws.{AllZip-length}
use Rattle.ioam_run_arrivals.proofs.forwarding.Forwarding.skip.Goals as goal

pub returns-clause-of : goal.returns-clause-of
returns-clause-of g c =
    let many = sym (AllZip-length (MayRun c.args.domain.now c.args.readings.now) c.args.self.now.batch.jobs c.run_batch.new.batch.jobs c.run_batch.ensures.may) in
    IsOf-tell c.args.domain.now c.args.self.now _ c.run_batch.new.batch.jobs many c.clear.ensures.none (ap (λ (jobs : List Job). c.args.self.now.told + length jobs) c.jobs-jobs.ensures.value)
    refl refl refl c.requires.of

pub returns-clause-gathers : goal.returns-clause-gathers
returns-clause-gathers g c =
    let many = sym (AllZip-length (MayRun c.args.domain.now c.args.readings.now) c.args.self.now.batch.jobs c.run_batch.new.batch.jobs c.run_batch.ensures.may) in
    let told = ap (λ (jobs : List Job). c.args.self.now.told + length jobs) c.jobs-jobs.ensures.value in
    let of = IsOf-tell c.args.domain.now c.args.self.now _ c.run_batch.new.batch.jobs many c.clear.ensures.none told refl refl refl c.requires.of in
    λ frames texts. Forwards-skip c.args.domain.now c.args.self.now _ c.run_batch.new.batch.jobs many c.clear.ensures.none told refl refl c.args.readings.now of frames texts
