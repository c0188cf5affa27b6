use Rattle.std.proofs.Common.{◌∙◌}
use Rattle.ioam_part_merge.specs.Walk.{sides}
use Rattle.ioam_part_merge.proofs.WalkLaws.{begins, body_is}
use Rattle.ioam_part_merge.proofs.walk.Walk.new.Goals as goal

pub returns : goal.returns
returns c = λ xs ys p q. begins c.args.one.now c.args.two.now (sides c.new.result c.new-2.result) xs ys p q
    (c.new.ensures xs p.each p.in_order.keys (c.records.ensures ∙ (body_is c.args.one.now xs p).1))
    (c.new-2.ensures ys q.each q.in_order.keys (c.records-2.ensures ∙ (body_is c.args.two.now ys q).1))
