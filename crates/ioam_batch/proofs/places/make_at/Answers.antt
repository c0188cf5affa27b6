use Rattle.std.proofs.Common.{◌+◌, arith}
use Rattle.std.proofs.lemmas.List.{drop-set-lt, take_more_set}
use Rattle.ioam_batch.proofs.BatchLaws.{small-set}
use Rattle.ioam_batch.proofs.places.make_at.Goals as goal

pub returns-in-Ok-clause-made : goal.returns-in-Ok-clause-made
returns-in-Ok-clause-made c =
    let job = c.renew.new.self in (
      job,
      c.in-Ok.ensures.made,
      c.reserved.ensures.value,
      take_more_set c.args.jobs.now.items c.args.place job c.requires.place,
    )

pub returns-in-Ok-clause-behind : goal.returns-in-Ok-clause-behind
returns-in-Ok-clause-behind c = drop-set-lt (c.args.place + 1) c.args.jobs.now.items c.args.place c.renew.new.self (omega arith)

pub returns-in-Err-clause-behind : goal.returns-in-Err-clause-behind
returns-in-Err-clause-behind c = drop-set-lt (c.args.place + 1) c.args.jobs.now.items c.args.place c.renew.new.self (omega arith)

pub returns-in-Err-clause-small : goal.returns-in-Err-clause-small
returns-in-Err-clause-small c =
    small-set c.args.jobs.now.items c.args.place c.index_mut-job.result.now c.renew.new.self c.requires.place c.index_mut-job.ensures.value c.in-Err.ensures.lost
