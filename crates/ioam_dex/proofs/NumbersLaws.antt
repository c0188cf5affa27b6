-- A number that is there or not, among octets.
use Rattle.std.proofs.Common.{◌≡◌, ℕ, ◌+◌, ◌≤◌, Bool, true, false, List, ◌++◌, length, drop, arith, refl, ap}
use Rattle.std.specs.Option.{is_some}
use Rattle.ioam_base.specs.Octets.{IsOctets}
use Rattle.ioam_base.specs.Words.{four_octets_if}
use Rattle.ioam_base.proofs.WordsLaws.{four-at}
use Rattle.ioam_dex.specs.Numbers.{four_where, u32_where}

module _ (octets : List ℕ) (at : ℕ) where
  pub four_where-at : (there : Bool) → IsOctets octets → at + four_where there ≤ length octets
      → drop at octets ≡ four_octets_if (u32_where there octets at) ++ drop (at + four_where there) octets
  four_where-at true small fits = four-at octets at small fits
  four_where-at false small fits = ap (λ n. drop n octets) (omega arith)

  pub u32_where-is_some : (there : Bool) → is_some (u32_where there octets at) ≡ there
  u32_where-is_some true = refl
  u32_where-is_some false = refl
