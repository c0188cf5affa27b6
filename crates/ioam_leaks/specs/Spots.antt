-- What contracts see of a `Spot`.
use Rattle.std.specs.Prelude.{◌≡◌, ◌<◌, ℕ, List, Option, Some, None}
use Rattle.ioam_ip.specs.Chain.{CanPass, behind}
use Rattle.ioam_ip.specs.declared.chain.HeadSpot.{HeadSpot}
use Rattle.ioam_leaks.specs.declared.spot.Spot.{Spot}

-- the spot on the chain that it is
abbrev pub spot_of : Spot → HeadSpot
spot_of spot = record { value = spot.value; at = spot.at; behind_ip = spot.behind_ip }

-- the chain goes on after the header, at this spot, or it doesn't
abbrev pub IsPassed : List ℕ → Spot → Option Spot → Type 0
IsPassed p spot None = CanPass p (spot_of spot) → ⊥
IsPassed p spot (Some next) = CanPass p (spot_of spot) × (spot_of next ≡ behind p (spot_of spot)) × (spot.at < next.at)
