use Rattle.std.proofs.Common.{◌+◌, ◌-◌, length, take, drop, ap, sym, ◌∙◌}
use Rattle.std.proofs.lemmas.List.{take_rest}
use Rattle.ioam_node_visit.specs.Step.{knows}
use Rattle.ioam_explain.specs.Rows.{differing}
use Rattle.ioam_explain.specs.declared.reason.Rule.TheVariants as rule
use Rattle.ioam_explain.proofs.OptionsLaws.{at_found, at_last}
use Rattle.ioam_explain.proofs.options.items_rules.Goals as goal

pub returns-in-Some-item_rules : goal.returns-in-Some-item_rules
returns-in-Some-item_rules c =
    let audited = c.args.audited.now in
    let so_far = c.options.invariant in
    sym (so_far.2 ∙ at_found (knows audited.domain.now audited.node.0) audited.sight.hops audited.sight.id audited.sight.inward c.args.old.now c.args.new.now
    c.options.traces c.options.from c.in-Some.spot c.in-Some.ensures c.in-Some-item_rules.reason (sym c.in-Some-item_rules.ensures))

pub returns : goal.returns
returns c =
    let audited = c.args.audited.now in
    let so_far = c.options.invariant in
    let old = c.args.old.now in
    let new = c.args.new.now in
    let from = c.options.from in
    c.differing.ensures
    ∙ ap (λ xs. differing rule.Padding 0 (40 + from) xs (take (length old - from) (drop from old))) (take_rest new from)
    ∙ ap (λ xs. differing rule.Padding 0 (40 + from) (drop from new) xs) (take_rest old from)
    ∙ sym (so_far.2 ∙ at_last (knows audited.domain.now audited.node.0) audited.sight.hops audited.sight.id audited.sight.inward old new c.options.traces from c.in_default.ensures)
