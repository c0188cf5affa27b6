use Rattle.std.proofs.Common.{length, ◌-◌}
use Rattle.ioam_leaks.specs.Shows.{HasOption}
use Rattle.ioam_leaks.proofs.option.has_option.Given as goal

abbrev pub invariant-options : goal.invariant-options
invariant-options l = (HasOption l.part l.head 2 → HasOption l.part l.head l.at) × (HasOption l.part l.head l.at → HasOption l.part l.head 2)

abbrev pub decreases-options : goal.decreases-options
decreases-options l = length l.head - l.at
