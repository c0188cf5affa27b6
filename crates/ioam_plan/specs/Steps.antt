-- What is true of a packet at each stage of its journey.
use Rattle.std.specs.Prelude.{◌≡◌, ℕ, ◌+◌, ◌-◌, ◌*◌, ◌^◌, ◌<◌, ◌≤◌, Bool, true, false, if◌then◌else◌, List, [], ◌∷◌, length, Option, Some, None, IsSome, All}
use Rattle.ioam_topo.specs.declared.domain.Domain.{Domain}
use Rattle.ioam_topo.specs.Domain.{nodes, ports}
use Rattle.ioam_plan.specs.declared.itinerary.Visit.{Visit}
use Rattle.ioam_plan.specs.declared.stage.Inside.{Inside}
use Rattle.ioam_plan.specs.declared.stage.JourneySpot.{JourneySpot}
use Rattle.ioam_plan.specs.declared.stage.Stage.{Stage}
use Rattle.ioam_plan.specs.declared.stage.Stage.TheVariants.{Enter, At, Gone, Out}
use Rattle.ioam_plan.specs.declared.stage.JourneyStep.{JourneyStep}
use Rattle.ioam_plan.specs.declared.stage.JourneyStep.TheVariants.{Goes, Ends}
use Rattle.ioam_plan.specs.declared.stage.Trip.{Trip}
use Rattle.ioam_plan.specs.Inside.{EndsInside}
use Rattle.ioam_plan.specs.Rides.{IsVisitIn, Sends, SendsBy, SendsToExit}

-- as many links as the hop limit allows, each with the longest delay, end in time
abbrev pub IsInTime : JourneySpot → Type 0
IsInTime spot = spot.time + spot.hops * 2 ^ 32 < 2 ^ 63

-- the stage is one of the domain, in time, and an outer packet has a hop limit
abbrev pub IsHere : Domain → Stage → Type 0
IsHere domain (Enter spot entry) = (spot.node.0 < length (nodes domain)) × (spot.time < 2 ^ 62) × (1 ≤ entry.hops)
IsHere domain (At spot) = (spot.node.0 < length (nodes domain)) × IsInTime spot
IsHere domain (Gone port) = port.0 < length (ports domain)
IsHere domain (Out node inside) = node.0 < length (nodes domain)

-- the packet came out of its tunnel
abbrev pub is_out : Stage → Bool
is_out (Enter spot entry) = false
is_out (At spot) = false
is_out (Gone port) = false
is_out (Out node inside) = true

-- at how many nodes it can be sent on yet
abbrev pub left : Stage → ℕ
left (Enter spot entry) = entry.hops
left (At spot) = spot.hops - 1
left (Gone port) = 0
left (Out node inside) = 0

-- and how many stages can follow
abbrev pub fuel : Stage → ℕ
fuel (Enter spot entry) = entry.hops + 2
fuel (At spot) = spot.hops + 1
fuel (Gone port) = 0
fuel (Out node inside) = 0

-- the one visit more of a packet that came out
abbrev pub extra : Stage → ℕ
extra stage = if is_out stage then 1 else 0

-- these visits lead an enclosed packet of this size to a stage: at each it was sent on, but for the exit's, and the first link took it
abbrev pub LedIn : ℕ → Stage → List Visit → Type 0
LedIn size (Enter spot entry) visits = visits ≡ []
LedIn size (At spot) visits = (size ≤ 65575) × (0 < length visits) × All Sends visits
LedIn size (Gone port) visits = (size ≤ 65575) × (0 < length visits) × All Sends visits
LedIn size (Out node inside) visits = (size ≤ 65575) × SendsToExit visits

-- the same of any packet
abbrev pub LedTo : ℕ → Option Inside → Stage → List Visit → Type 0
LedTo size None stage visits = (is_out stage ≡ false) × All Sends visits
LedTo size (Some inside) stage visits = LedIn size stage visits

-- a visit leads a packet of this size from a stage to another: by a way, or out of its tunnel
abbrev pub Passes : ℕ → Option Inside → Visit → Stage → Stage → Type 0
Passes size inside visit (Enter spot entry) (At next) = (size ≤ 65575) × Sends visit
Passes size inside visit (Enter spot entry) (Enter next other) = ⊥
Passes size inside visit (Enter spot entry) (Gone port) = ⊥
Passes size inside visit (Enter spot entry) (Out node inner) = ⊥
Passes size inside visit (At spot) (At next) = Sends visit
Passes size inside visit (At spot) (Gone port) = Sends visit
Passes size inside visit (At spot) (Out node inner) = IsSome inside × (visit.way ≡ None)
Passes size inside visit (At spot) (Enter next other) = ⊥
Passes size inside visit (Gone port) next = ⊥
Passes size inside visit (Out node inner) next = ⊥

-- a step leads from a stage of the domain by a visit to another, or to an end there
abbrev pub StepsTo : Domain → Trip → Stage → JourneyStep → Type 0
StepsTo domain trip stage (Goes visit next) = IsVisitIn domain visit × IsHere domain next × Passes trip.size trip.inside visit stage next
    × (left next + 1 ≤ left stage + extra next) × (fuel next < fuel stage)
StepsTo domain trip stage (Ends end exited) = EndsInside domain end × (exited ≡ is_out stage)

-- what all visits of a packet keep, which perhaps came out of its tunnel
abbrev pub HasRidden : ℕ → Option Inside → Bool → List Visit → Type 0
HasRidden size None exited visits = (exited ≡ false) × All Sends visits
HasRidden size (Some inside) exited [] = exited ≡ false
HasRidden size (Some inside) exited (visit ∷ visits) = (size ≤ 65575) × SendsBy exited (visit ∷ visits)
