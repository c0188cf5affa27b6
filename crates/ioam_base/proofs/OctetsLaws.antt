-- Laws of octets and their numbers.
use Rattle.std.proofs.Common.{◌≡◌, ℕ, ◌+◌, ◌<◌, ◌≤◌, List, ◌++◌, length, drop, arith, refl}
use Rattle.std.proofs.lemmas.Grind.{common_steps}
use Rattle.std.proofs.lemmas.List.{get_or-drop}
use Rattle.byteorder.specs.Endian.{big_number, big_bytes}
use Rattle.ioam_base.specs.Octets.{u16_at, u24_at, u32_at, u64_at, IsOctets}
use Rattle.ioam_base.specs.Words.{two_octets, three_octets, four_octets, eight_octets}

-- what follows changes no number in front of it
pub u16_at-append : (a b : List ℕ) (at : ℕ) → at + 2 ≤ length a → u16_at (a ++ b) at ≡ u16_at a at
u16_at-append a b at fits = grind (arith, common_steps)

pub u32_at-append : (a b : List ℕ) (at : ℕ) → at + 4 ≤ length a → u32_at (a ++ b) at ≡ u32_at a at
u32_at-append a b at fits = grind (arith, common_steps)

-- a number of octets is below the power of its width
pub u16_at-fits : (a : List ℕ) (at : ℕ) → IsOctets a → u16_at a at < 65536
u16_at-fits a at fits = omega (arith, fits at, fits (at + 1))

pub u32_at-fits : (a : List ℕ) (at : ℕ) → IsOctets a → u32_at a at < 4294967296
u32_at-fits a at fits = omega (arith, fits at, fits (at + 1), fits (at + 2), fits (at + 3))

-- ---- the numbers and octets of the crate byteorder are these

module _ (octets : List ℕ) (at : ℕ) where
  pub big_number-two : big_number 2 (drop at octets) ≡ u16_at octets at
  big_number-two = grind (arith, get_or-drop)

  pub big_number-three : big_number 3 (drop at octets) ≡ u24_at octets at
  big_number-three = grind (arith, get_or-drop)

  pub big_number-four : big_number 4 (drop at octets) ≡ u32_at octets at
  big_number-four = grind (arith, get_or-drop)

  pub big_number-eight : big_number 8 (drop at octets) ≡ u64_at octets at
  big_number-eight = grind (arith, get_or-drop)

pub big_bytes-two : (number : ℕ) → big_bytes 2 number ≡ two_octets number
big_bytes-two number = refl

pub big_bytes-three : (number : ℕ) → big_bytes 3 number ≡ three_octets number
big_bytes-three number = refl

pub big_bytes-four : (number : ℕ) → big_bytes 4 number ≡ four_octets number
big_bytes-four number = refl

pub big_bytes-eight : (number : ℕ) → big_bytes 8 number ≡ eight_octets number
big_bytes-eight number = refl
