use Rattle.std.proofs.Common.{◌≡◌, ◌++◌, None, drop}
use Rattle.ioam_delay_counts.specs.Courses.{steps_of}
use Rattle.ioam_delay_counts.proofs.course.put_steps.Given as goal

abbrev pub invariant-sights : goal.invariant-sights
invariant-sights l = l.steps.items ++ steps_of l.before (drop l.sight-index l.sights) ≡ steps_of None l.sights
