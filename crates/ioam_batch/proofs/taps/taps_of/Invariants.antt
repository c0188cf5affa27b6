use Rattle.std.proofs.Common.{◌≡◌, map, take}
use Rattle.ioam_batch.specs.Taps.{is_tapped}
use Rattle.ioam_batch.proofs.taps.taps_of.Given as goal

abbrev pub invariant-loop-visit : goal.invariant-loop-visit
invariant-loop-visit l = l.taps.items ≡ map (is_tapped l.domain) (take l.visit-index l.visits)
