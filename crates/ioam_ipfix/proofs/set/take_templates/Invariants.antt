use Rattle.std.proofs.Common.{◌-◌, ◌≤◌, length}
use Rattle.ioam_ipfix.proofs.PlacesLaws.{Took}
use Rattle.ioam_ipfix.proofs.set.take_templates.Given as goal

-- the templates up to a place were taken
abbrev pub invariant-templates : goal.invariant-templates
invariant-templates l = record {
  within : l.at ≤ length l.content;
  took : Took l.content l.initial.known l.at l.known;
}

abbrev pub decreases-templates : goal.decreases-templates
decreases-templates l = length l.content - l.at
