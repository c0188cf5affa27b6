use Rattle.std.proofs.Common.{length, take, drop, ◌-◌, sym, ◌∙◌}
use Rattle.std.proofs.lemmas.List.{take_rest}
use Rattle.ioam_explain.proofs.BodyLaws.{by_left, by_none}
use Rattle.ioam_explain.proofs.trace.body_rules.Goals as goal

pub returns-in-Some-left_by : goal.returns-in-Some-left_by
returns-in-Some-left_by c =
    let old = c.args.old.now in
    let new = c.args.new.now in
    c.differing.ensures ∙ sym (by_left c.args.sight.hops c.args.sight.id c.args.sight.inward c.args.trace c.args.at c.args.knows old new (sym c.in_default.ensures)
    (take (length old - 2) (drop 2 old)) (take (length new - 2) (drop 2 new)) (take_rest old 2) (take_rest new 2)
    c.in-Some-left_by.left (sym c.in-Some-left_by.ensures))

pub returns-in-None : goal.returns-in-None
returns-in-None c =
    let old = c.args.old.now in
    let new = c.args.new.now in
    c.open_rules.ensures ∙ sym (by_none c.args.sight.hops c.args.sight.id c.args.sight.inward c.args.trace c.args.at c.args.knows old new (sym c.in_default.ensures)
    (take (length old - 2) (drop 2 old)) (take (length new - 2) (drop 2 new)) (take_rest old 2) (take_rest new 2) (sym c.in-None.ensures))
