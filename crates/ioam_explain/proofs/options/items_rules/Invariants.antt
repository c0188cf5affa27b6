use Rattle.std.proofs.Common.{◌≡◌, ◌≤◌, ◌-◌, length}
use Rattle.ioam_ip.specs.Rewriting.{options_in}
use Rattle.ioam_node_visit.specs.Step.{knows}
use Rattle.ioam_explain.specs.Options.{items_rules}
use Rattle.ioam_explain.specs.Rows.{first_broken}
use Rattle.ioam_explain.proofs.OptionsLaws.{left}
use Rattle.ioam_explain.proofs.options.items_rules.Given as goal

abbrev pub invariant-options : goal.invariant-options
invariant-options l = (l.from ≤ length l.old) × (l.traces ≤ l.from)
    × (first_broken (items_rules (knows l.audited.domain.now l.audited.node.0) l.audited.sight.hops l.audited.sight.id l.audited.sight.inward 0 2 l.old (options_in l.old) l.new)
    ≡ first_broken (left (knows l.audited.domain.now l.audited.node.0) l.audited.sight.hops l.audited.sight.id l.audited.sight.inward l.old l.new l.traces l.from))

abbrev pub decreases-options : goal.decreases-options
decreases-options l = length l.old - l.from
