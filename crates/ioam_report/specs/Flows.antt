-- What is counted of the packets that are enclosed in a flow.
use Rattle.std.specs.Prelude.{◌≡◌, ℕ, Bool, false, ◌&&◌, if◌then◌else◌, List, [], ◌∷◌, Option, Some, None, is_some, count_by}
use Rattle.std.specs.List.{flat_map}
use Rattle.ioam_edge.specs.Receiver.{Stands}
use Rattle.ioam_topo.specs.declared.ids.FlowId.{FlowId}
use Rattle.ioam_tunnel.specs.declared.numbers.Numbers.{Numbers}
use Rattle.ioam_plan.specs.declared.itinerary.Itinerary.{Itinerary}
use Rattle.ioam_plan.specs.Counted.{enclosed_in, is_enclosed_in}
use Rattle.ioam_report.specs.declared.flows.FlowSum.{FlowSum}

-- what is carried has a direct export
abbrev pub has_direct : Option (FlowId × Numbers) → Bool
has_direct None = false
has_direct (Some carried) = is_some carried.1.direct

-- a packet of the flow at this place of the file that carries a direct export
abbrev pub is_direct_in : ℕ → Itinerary → Bool
is_direct_in flow itinerary = is_enclosed_in flow itinerary && has_direct itinerary.carried

-- one that reached the exit of the flow
abbrev pub is_exited_in : ℕ → Itinerary → Bool
is_exited_in flow itinerary = is_enclosed_in flow itinerary && itinerary.exited

-- the number of what is carried
abbrev pub numbers_in : Option (FlowId × Numbers) → List ℕ
numbers_in None = []
numbers_in (Some carried) = carried.1.number ∷ []

-- the number of a packet of the flow that reached its exit
abbrev pub exit_number : ℕ → Itinerary → List ℕ
exit_number flow itinerary = if is_exited_in flow itinerary then numbers_in itinerary.carried else []

-- those of all of them, in order of arrival
abbrev pub exit_numbers : ℕ → List Itinerary → List ℕ
exit_numbers flow arrivals = flat_map (exit_number flow) arrivals

-- this is counted of these arrivals in the flow at this place of the file; its receiver noted the numbers of those that reached
-- the exit
pub record IsSumOf (flow : ℕ) (arrivals : List Itinerary) (sum : FlowSum) : Type 0 where
  pub enclosed : sum.enclosed ≡ enclosed_in flow arrivals
  pub exited : sum.exited ≡ count_by (is_exited_in flow) arrivals
  pub direct : sum.direct ≡ count_by (is_direct_in flow) arrivals
  pub receiver : Stands sum.receiver (exit_numbers flow arrivals)
