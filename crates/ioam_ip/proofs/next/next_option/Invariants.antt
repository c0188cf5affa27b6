use Rattle.std.proofs.Common.{length, ◌-◌, ◌≡◌, ◌≤◌}
use Rattle.ioam_ip.specs.OptionsLeft.{options_from}
use Rattle.ioam_ip.proofs.next.next_option.Given as goal

abbrev pub invariant-options : goal.invariant-options
invariant-options l = (l.from ≤ l.at) × (options_from (length l.head) l.head l.at ≡ options_from (length l.head) l.head l.from)

abbrev pub decreases-options : goal.decreases-options
decreases-options l = length l.head - l.at
