use Rattle.ioam_part.proofs.PutLaws.{kept_on, on_err}
use Rattle.ioam_part.proofs.putting.put_all.Goals as goal

pub returns-in_err-put_items-clause-kept : goal.returns-in_err-put_items-clause-kept
returns-in_err-put_items-clause-kept c = on_err c.from_residual.result _
    (kept_on c.args.out.now.items c.loop-group.out.items c.put_items.new.out.items c.loop-group.invariant.front c.loop-group.invariant.more c.in_err-put_items.ensures.kept)
