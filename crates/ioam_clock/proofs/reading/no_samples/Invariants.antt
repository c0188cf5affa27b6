use Rattle.std.proofs.Common.{◌≡◌, replicate, []}
use Rattle.ioam_clock.proofs.reading.no_samples.Given as goal

abbrev pub invariant-loop : goal.invariant-loop
invariant-loop l = l.tracks.items ≡ replicate l.counter []
