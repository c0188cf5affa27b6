use Rattle.std.proofs.Common.{◌≡◌, ◌+◌, ◌-◌, ◌≤◌, length}
use Rattle.ioam_ip.specs.Hop.{ioam_count}
use Rattle.ioam_ip.specs.OptionsLeft.{options_from}
use Rattle.ioam_node_visit.proofs.counting.count_in.Given as goal

abbrev pub invariant-options : goal.invariant-options
invariant-options l =
    (l.count ≤ l.at) × (l.count + ioam_count (options_from (length l.head) l.head l.at) ≡ ioam_count (options_from (length l.head) l.head 2))
    × (l.at ≤ 4096)

abbrev pub decreases-options : goal.decreases-options
decreases-options l = length l.head - l.at
