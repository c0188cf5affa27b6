use Rattle.std.proofs.Common.{◌≡◌, ◌+◌, ◌*◌, ◌++◌, ◌≤◌, length, drop}
use Rattle.ioam_line.specs.Digits.{digits_of}
use Rattle.ioam_line.proofs.buffer.LineBuffer.put_digits.Given as goal

abbrev pub invariant-octets : goal.invariant-octets
invariant-octets g l = record {
  value : l.self ≡ digits_of (drop l.left l.octets) ++ l.initial.self;
  size : length l.self + 2 * l.left ≡ 2 * length l.octets + length l.initial.self;
  within : l.left ≤ length l.octets;
}

abbrev pub decreases-octets : goal.decreases-octets
decreases-octets g l = l.left
