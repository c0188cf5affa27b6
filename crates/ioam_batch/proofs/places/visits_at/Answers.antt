use Rattle.std.proofs.Common.{arith}
use Rattle.ioam_batch.proofs.BatchLaws.{small-set}
use Rattle.ioam_batch.proofs.places.visits_at.Goals as goal

pub returns-then-place-len-clause-small : goal.returns-then-place-len-clause-small
returns-then-place-len-clause-small c =
    small-set c.args.jobs.now.items c.args.place c.index_mut.result.now c.take_visits.new.self (omega arith) c.index_mut.ensures.value (omega arith)
