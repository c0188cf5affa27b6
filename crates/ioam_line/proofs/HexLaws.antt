-- How long the digits of a number are.
use Rattle.std.proofs.Common.{◌≡◌, ℕ, ◌+◌, ◌*◌, ◌≤◌, drop, length, arith, refl}
use Rattle.std.specs.Int.{w32, w64, to_be_bytes}
use Rattle.ioam_line.specs.Given.{width_of, last_octets}
use Rattle.ioam_line.specs.declared.piece.Width.{Width}
use Rattle.ioam_line.specs.declared.piece.Width.TheVariants.{One, Two, Three, Four, Eight}

pub hex-long : (number : ℕ) (width : Width) → length (last_octets width number) ≡ width_of width
hex-long number One = refl
hex-long number Two = refl
hex-long number Three = refl
hex-long number Four = refl
hex-long number Eight = refl

width-most : (width : Width) → width_of width ≤ 8
width-most One = omega arith
width-most Two = omega arith
width-most Three = omega arith
width-most Four = omega arith
width-most Eight = omega arith

-- and how long at most, with the quotes of JSON
pub hex_most : (number : ℕ) (width : Width) → 2 * length (last_octets width number) + 2 ≤ 20
hex_most number width = omega (arith, hex-long number width, width-most width)

-- the last octets of a number are the same among four and among eight
pub narrow-same : (number : ℕ) → drop 5 (to_be_bytes w64 number) ≡ drop 1 (to_be_bytes w32 number)
narrow-same number = refl

pub word-same : (number : ℕ) → drop 4 (to_be_bytes w64 number) ≡ to_be_bytes w32 number
word-same number = refl
