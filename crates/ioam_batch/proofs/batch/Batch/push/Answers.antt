use Rattle.ioam_batch.proofs.BatchLaws.{batch-more, no-mark}
use Rattle.ioam_batch.proofs.batch.Batch.push.Goals as goal

pub invariant_of-self : goal.invariant_of-self
invariant_of-self c =
    let i = c.self.inside in
    let put = c.put_job_at.ensures in
    batch-more i.jobs.items c.put_job_at.new.jobs.items _ _ i.count i.reserved c.reserved-reserved.result i.has_large _ c.args.job c.self.invariant put.room put.there
    put.front put.behind c.reserved-reserved.ensures.value (no-mark i.has_large c.reserved-reserved.result)
