use Rattle.std.proofs.Common.{◌≡◌, ◌≤◌, ◌-◌, drop, length}
use Rattle.ioam_delay_counts.specs.Keys.{steps_before}
use Rattle.ioam_delay_counts.proofs.keys.steps_precede.Given as goal

abbrev pub invariant-steps : goal.invariant-steps
invariant-steps l =
    (l.at ≤ length l.ones) × (l.at ≤ length l.others) × (steps_before l.rest l.ones l.others ≡ steps_before l.rest (drop l.at l.ones) (drop l.at l.others))

abbrev pub decreases-steps : goal.decreases-steps
decreases-steps l = length l.ones - l.at
