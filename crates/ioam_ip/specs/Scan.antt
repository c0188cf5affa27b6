-- What a look through one options header finds.
use Rattle.std.specs.Prelude.{◌≡◌, List, ℕ}
use Rattle.ioam_ip.specs.Options.{Item, AreOptions, IsFilled, UnfitAt}
use Rattle.ioam_ip.specs.Findings.{has_ioam, first_limit}
use Rattle.ioam_ip.specs.declared.scan.Findings.{Findings}
use Rattle.ioam_ip.specs.declared.scan.Scan.{Scan}
use Rattle.ioam_ip.specs.declared.scan.Scan.TheVariants.{Fills, Unfit}

-- what was found is what these options have
pub record IsFoundIn (os : List Item) (found : Findings) : Type 0 where
  pub ioam : found.ioam ≡ has_ioam os
  pub limit : found.limit ≡ first_limit os

-- what a look through a header told: its options fill it, and what they have; or the first misfit
abbrev pub Scans : List ℕ → Scan → Type 0
Scans head (Fills found) = (os : List Item) × AreOptions head os × IsFoundIn os found
Scans head (Unfit at) = UnfitAt head at × (IsFilled head → ⊥)
