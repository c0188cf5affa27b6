use Rattle.std.proofs.Common.{◌∙◌}
use Rattle.ioam_batch.proofs.BatchLaws.{batch-none, batch-small}
use Rattle.ioam_batch.proofs.batch.Batch.clear.Goals.{then-self, else-self}
use Rattle.ioam_batch.proofs.batch.Batch.clear.Goals as goal

pub invariant_of-self : goal.invariant_of-self
invariant_of-self c =
    let i = c.self.inside in
    let is = c.self.invariant in
    elim c.if-self.branch [
      | then-self w ↦ rw w.self-inside-is (batch-none w.keep_small.new.jobs.items _ _ (w.keep_small.ensures.room ∙ is.room) w.keep_small.ensures.small)
      | else-self w ↦ rw w.self-inside-is (batch-none i.jobs.items _ _ is.room (batch-small i.jobs.items _ i.count i.reserved i.has_large is w.if-self.false))
    ]

pub returns-clause-small : goal.returns-clause-small
returns-clause-small c =
    let i = c.self.inside in
    elim c.if-self.branch [
      | then-self w ↦ rw w.self-inside-is w.keep_small.ensures.small
      | else-self w ↦ rw w.self-inside-is (batch-small i.jobs.items _ i.count i.reserved i.has_large c.self.invariant w.if-self.false)
    ]
