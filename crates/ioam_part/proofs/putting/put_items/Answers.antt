use Rattle.ioam_part.proofs.PutLaws.{kept_on, on_err}
use Rattle.ioam_part.proofs.putting.put_items.Goals as goal

pub returns-in_err-put_item-clause-kept : goal.returns-in_err-put_item-clause-kept
returns-in_err-put_item-clause-kept c = on_err c.from_residual.result _
    (kept_on c.args.out.now.items c.loop-item.out.items c.put_item.new.out.items c.loop-item.invariant.front c.loop-item.invariant.more c.in_err-put_item.ensures.kept)
