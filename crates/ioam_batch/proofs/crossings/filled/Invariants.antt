use Rattle.std.proofs.Common.{◌≡◌, ◌+◌, ◌*◌, ◌≤◌, drop}
use Rattle.ioam_batch.specs.Crossings.{filled}
use Rattle.ioam_batch.proofs.crossings.filled.Given as goal

abbrev pub invariant-loop-tap : goal.invariant-loop-tap
invariant-loop-tap l = record {
  ends : l.octets + filled l.size (drop l.tap-index l.taps) ≡ filled l.size l.taps;
  small : l.octets ≤ 131072 * l.tap-index;
}
