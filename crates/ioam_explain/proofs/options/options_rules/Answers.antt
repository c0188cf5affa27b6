use Rattle.std.proofs.Common.{arith, sym, ◌∙◌}
use Rattle.ioam_node_visit.specs.Step.{knows}
use Rattle.ioam_explain.proofs.OptionsLaws.{no_header, some_header}
use Rattle.ioam_explain.proofs.options.options_rules.Goals as goal

pub returns-then-octets-eq0 : goal.returns-then-octets-eq0
returns-then-octets-eq0 c =
    let audited = c.args.audited.now in
    sym (no_header (knows audited.domain.now audited.node.0) audited.sight.hops audited.sight.id audited.sight.inward c.args.before.now c.args.after.now
    (omega (arith, c.if-octets-eq0.true, c.hop_octets-octets.ensures.value)))

pub returns : goal.returns
returns c =
    let audited = c.args.audited.now in
    c.items_rules.ensures
    ∙ sym (some_header (knows audited.domain.now audited.node.0) audited.sight.hops audited.sight.id audited.sight.inward c.args.before.now c.args.after.now
    c.hop_octets-octets.result c.hop_octets-octets.ensures.value c.if-octets-eq0.false (sym c.in_default.ensures))
