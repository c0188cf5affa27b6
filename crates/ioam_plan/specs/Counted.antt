-- What was enclosed of the arrivals before one.
use Rattle.std.specs.Prelude.{◌≡◌, ◌^◌, ⊤, ℕ, ◌<◌, Bool, false, nat_eq, List, Option, Some, None, length, slice_get, slice_index, count_by}
use Rattle.ioam_topo.specs.declared.domain.Domain.{Domain}
use Rattle.ioam_topo.specs.declared.ids.FlowId.{FlowId}
use Rattle.ioam_topo.specs.Domain.{flows}
use Rattle.ioam_tunnel.specs.declared.numbers.Numbers.{Numbers}
use Rattle.ioam_plan.specs.declared.itinerary.Itinerary.{Itinerary}

-- whether what is carried is of the flow at this place of the file
abbrev pub is_of_flow : ℕ → Option (FlowId × Numbers) → Bool
is_of_flow flow None = false
is_of_flow flow (Some carried) = nat_eq flow carried.0.0

-- whether a packet is enclosed in that flow
abbrev pub is_enclosed_in : ℕ → Itinerary → Bool
is_enclosed_in flow itinerary = is_of_flow flow itinerary.carried

-- how many of these arrivals were enclosed in that flow
abbrev pub enclosed_in : ℕ → List Itinerary → ℕ
enclosed_in flow earlier = count_by (is_enclosed_in flow) earlier

-- the numbers of the domain's flows stand for these arrivals: of each flow it is how many were enclosed
pub record CountFor (domain : Domain) (counters : List ℕ) (earlier : List Itinerary) : Type 0 where
  pub count : length counters ≡ length (flows domain)
  pub each : (flow : ℕ) → flow < length (flows domain) → slice_get counters flow ≡ Some (enclosed_in flow earlier)

-- the flow of what is carried, if it is, has a number that can rise
abbrev pub CanCount : List ℕ → Option (FlowId × Numbers) → Type 0
CanCount counters None = ⊤
CanCount counters (Some carried) = (carried.0.0 < length counters) × (slice_index counters carried.0.0 < 2 ^ 32)
