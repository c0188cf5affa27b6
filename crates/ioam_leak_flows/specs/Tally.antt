-- How many packets leak in each flow, by the flows of the packets in their order.
use Rattle.std.specs.Prelude.{◌≡◌, ℕ, List, [], ◌∷◌, Bool, not, ◌==◌, ◌&&◌, length, take, filter, map}
use mathlib.Core.Bool.{beq}
use Rattle.ioam_leak_flows.specs.declared.counts.Flows.{Flows}
use Rattle.ioam_leak_flows.specs.declared.flow.Flow.{Flow}

-- two flows are one
abbrev pub same : Flow → Flow → Bool
same a b = (a.source == b.source) && ((a.target == b.target) && beq a.quotes b.quotes)

-- the flows that differ, each where it is first
abbrev pub distinct : List Flow → List Flow
distinct [] = []
distinct (flow ∷ flows) = flow ∷ filter (λ other. not (same flow other)) (distinct flows)

-- how many of the packets are of a flow
abbrev pub count_of : List Flow → Flow → ℕ
count_of flows flow = length (filter (same flow) flows)

-- the flows that are counted apart: the first 65,536
abbrev pub counted : List Flow → List Flow
counted flows = take 65536 (distinct flows)

-- each of them, with how many packets are of it
abbrev pub tally : List Flow → List (Flow × ℕ)
tally flows = map (λ flow. (flow, count_of flows flow)) (counted flows)

-- the counts are those of packets of these flows
abbrev pub IsTally : List Flow → Flows → Type 0
IsTally flows counted = counted.counts.entries ≡ tally flows
