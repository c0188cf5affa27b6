use Rattle.std.proofs.Common.{length, ◌-◌, ◌≤◌}
use Rattle.ioam_leaks.specs.Shows.{Shows}
use Rattle.ioam_leaks.specs.Spots.{spot_of}
use Rattle.ioam_leaks.proofs.walk.shows.Given as goal

abbrev pub invariant-headers : goal.invariant-headers
invariant-headers l = (Shows l.part l.packet (spot_of l.initial.spot) → Shows l.part l.packet (spot_of l.spot))
    × (Shows l.part l.packet (spot_of l.spot) → Shows l.part l.packet (spot_of l.initial.spot))
    × (l.spot.at ≤ length l.packet)

abbrev pub decreases-headers : goal.decreases-headers
decreases-headers l = length l.packet - l.spot.at
