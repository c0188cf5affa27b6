use Rattle.std.proofs.Common.{◌↔◌, ◌≤◌, ◌+◌, ◌-◌, length}
use Rattle.ioam_ip.specs.OptionsLeft.{options_from}
use Rattle.ioam_ip.specs.Rewriting.{options_in}
use Rattle.ioam_audit.specs.Header.{AreLeft}
use Rattle.ioam_node_visit.proofs.PlacesLaws.{Lies}
use Rattle.ioam_audit.proofs.options.agree.Given as goal

abbrev pub invariant-options : goal.invariant-options
invariant-options l = (l.from ≤ 40 + l.at) × (l.from ≤ length l.before) × Lies l.head l.at (options_from (length l.head) l.head l.at)
    × (AreLeft l.domain l.node.0 l.sight.hops l.sight.id l.sight.inward l.before l.after 40 (options_in l.head)
    ↔ AreLeft l.domain l.node.0 l.sight.hops l.sight.id l.sight.inward l.before l.after l.from (options_from (length l.head) l.head l.at))

abbrev pub decreases-options : goal.decreases-options
decreases-options l = length l.head - l.at
