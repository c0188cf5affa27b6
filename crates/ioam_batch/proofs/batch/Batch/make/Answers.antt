use Rattle.std.proofs.Common.{◌∙◌, ◌++◌, ◌∷◌, [], List, ap, arith}
use Rattle.ioam_batch.specs.Batches.{Batched}
use Rattle.ioam_batch.specs.declared.job.Job.{Job}
use Rattle.ioam_batch.proofs.BatchLaws.{batch-more, batch-same, no-mark}
use Rattle.ioam_batch.proofs.batch.Batch.make.Goals as goal

-- no job could be made
pub invariant_of-self : goal.invariant_of-self
invariant_of-self c =
    let i = c.self.inside in
    let place = c.make_place.ensures in
    let placed = batch-same i.jobs.items c.make_place.new.jobs.items _ _ i.count i.reserved i.has_large c.self.invariant place.room (omega arith) place.front place.small in
    let made = c.make_at.ensures in
    batch-same c.make_place.new.jobs.items c.make_at.new.jobs.items _ _ i.count i.reserved i.has_large placed made.room (omega arith) made.front c.in_err-reserved.ensures.small

pub invariant_of-self-2 : goal.invariant_of-self-2
invariant_of-self-2 c =
    let i = c.self.inside in
    let place = c.make_place.ensures in
    let placed = batch-same i.jobs.items c.make_place.new.jobs.items _ _ i.count i.reserved i.has_large c.self.invariant place.room (omega arith) place.front place.small in
    let made = c.in_ok-reserved.ensures.made in
    batch-more c.make_place.new.jobs.items c.make_at.new.jobs.items _ _ i.count i.reserved c.in_ok-reserved.reserved i.has_large _ made.0 placed c.make_at.ensures.room
    (omega arith) made.3 c.make_at.ensures.behind made.2 (no-mark i.has_large c.in_ok-reserved.reserved)

pub returns-clause-made : goal.returns-clause-made
returns-clause-made c =
    let made = c.in_ok-reserved.ensures.made in
    (made.0, made.1, made.3 ∙ ap (λ (jobs : List Job). jobs ++ made.0 ∷ []) (c.make_place.ensures.front ∙ ap (λ (b : Batched). b.jobs) c.self.view_is))
