use Rattle.std.proofs.Common.{arith}
use Rattle.ioam_batch.proofs.BatchLaws.{batch-same}
use Rattle.ioam_batch.proofs.batch.Batch.spare_visits.Goals as goal

pub invariant_of-self : goal.invariant_of-self
invariant_of-self c =
    let i = c.self.inside in
    let taken = c.visits_at.ensures in
    batch-same i.jobs.items c.visits_at.new.jobs.items _ _ i.count i.reserved i.has_large c.self.invariant taken.room (omega arith) taken.front taken.small
