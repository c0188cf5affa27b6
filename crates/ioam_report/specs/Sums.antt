-- What the sums of a run count.
use Rattle.std.specs.Prelude.{◌≡◌, ℕ, ◌+◌, ◌<◌, ◌≤◌, ◌^◌, Bool, true, false, not, ◌&&◌, if◌then◌else◌, nat_eq, List, Some, length, slice_get, IsSomeAnd, All, sum_by, count_by}
use Rattle.ioam_topo.specs.declared.domain.Domain.{Domain}
use Rattle.ioam_topo.specs.Domain.{nodes, flows}
use Rattle.ioam_plan.specs.declared.itinerary.Itinerary.{Itinerary}
use Rattle.ioam_plan.specs.declared.itinerary.Visit.{Visit}
use Rattle.ioam_plan.specs.declared.itinerary.End.{End}
use Rattle.ioam_plan.specs.declared.itinerary.End.TheVariants.{Left, Drop}
use Rattle.ioam_report.specs.declared.sums.NodeSum.{NodeSum}
use Rattle.ioam_report.specs.declared.sums.Sums.{Sums}
use Rattle.ioam_report.specs.Flows.{IsSumOf}

-- the visit is at the node at this place of the file
abbrev pub is_at : ℕ → Visit → Bool
is_at node visit = nat_eq node visit.place.node.0

-- whether a journey ended at a port
abbrev pub has_left : End → Bool
has_left (Left port) = true
has_left (Drop reason node) = false

-- whether it ended by a drop
abbrev pub is_dropped : End → Bool
is_dropped (Left port) = false
is_dropped (Drop reason node) = true

-- the packet is dropped at the node at this place of the file
abbrev pub is_dropped_at : ℕ → End → Bool
is_dropped_at node (Left port) = false
is_dropped_at node (Drop reason at) = nat_eq node at.0

-- the packet is dropped there at a visit that isn't among its visits: that of its tunnel's exit is
abbrev pub is_stopped_at : ℕ → Itinerary → Bool
is_stopped_at node itinerary = is_dropped_at node itinerary.end && not itinerary.exited

-- how often a node sees a packet: at each of its visits that is there, and once more where the node stops it
abbrev pub seen_of : ℕ → Itinerary → ℕ
seen_of node itinerary = count_by (is_at node) itinerary.visits + (if is_stopped_at node itinerary then 1 else 0)

-- the node of a drop is one of so many
abbrev pub IsEndBelow : ℕ → End → Type 0
IsEndBelow count (Left port) = Unit {0}
IsEndBelow count (Drop reason node) = node.0 < count

-- what is counted of arrivals at the node at this place of the file
abbrev pub node_sum : List Itinerary → ℕ → NodeSum
node_sum arrivals node = record {
  seen = sum_by (seen_of node) arrivals;
  dropped = count_by (λ arrival. is_dropped_at node arrival.end) arrivals;
}

-- The sums are those of arrivals, of which the itineraries are given in order. None has more than 256 visits; its hop
-- limit, an octet, allows no more.
pub record StandFor (domain : Domain) (sums : Sums) (arrivals : List Itinerary) : Type 0 where
  pub packets : sums.packets ≡ length arrivals
  pub left : sums.left ≡ count_by (λ arrival. has_left arrival.end) arrivals
  pub dropped : sums.dropped ≡ count_by (λ arrival. is_dropped arrival.end) arrivals
  pub count : length sums.nodes ≡ length (nodes domain)
  pub each : (node : ℕ) → node < length (nodes domain) → slice_get sums.nodes node ≡ Some (node_sum arrivals node)
  pub flow_count : length sums.flows ≡ length (flows domain)
  pub each_flow : (flow : ℕ) → flow < length (flows domain) → IsSomeAnd (slice_get sums.flows flow) (IsSumOf flow arrivals)
  pub short : All (λ arrival. length arrival.visits ≤ 256) arrivals

-- what a node counted rose by so much, where that fits
pub record Raised (old new : List NodeSum) (node seen dropped : ℕ) : Type 0 where
  pub raised : (before : NodeSum) → slice_get old node ≡ Some before → before.seen + seen < 2 ^ 64 → before.dropped + dropped < 2 ^ 64
      → slice_get new node ≡ Some (record { seen = before.seen + seen; dropped = before.dropped + dropped })
