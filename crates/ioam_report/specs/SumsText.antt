-- The sums at the end of a run's report: a line for all arrivals, one for each node, and one for each flow.
use Rattle.std.specs.Prelude.{ℕ, Bool, false, ◌||◌, if◌then◌else◌, List, [], ◌++◌, Option, Some, None, length, decimal, codes, count_by}
use Rattle.std.specs.List.{flat_map, zip, enumerate_from}
use Rattle.ioam_topo.specs.declared.domain.Domain.{Domain}
use Rattle.ioam_topo.specs.declared.parts.Node.{Node}
use Rattle.ioam_topo.specs.declared.parts.Flow.{Flow}
use Rattle.ioam_topo.specs.Domain.{nodes, flows}
use Rattle.ioam_edge.specs.Edge.{asks}
use Rattle.ioam_edge.specs.Noted.{tally_of}
use Rattle.ioam_edge.specs.Receiver.{tally_in}
use Rattle.ioam_edge.specs.declared.note.Tally.{Tally}
use Rattle.ioam_plan.specs.Counted.{enclosed_in}
use Rattle.ioam_plan.specs.declared.itinerary.Itinerary.{Itinerary}
use Rattle.ioam_report.specs.declared.flows.FlowSum.{FlowSum}
use Rattle.ioam_report.specs.declared.sums.NodeSum.{NodeSum}
use Rattle.ioam_report.specs.declared.sums.Sums.{Sums}
use Rattle.ioam_report.specs.Flows.{is_exited_in, is_direct_in, exit_numbers}
use Rattle.ioam_report.specs.Sums.{has_left, is_dropped, node_sum}
use Rattle.ioam_report_lines.specs.TraceText.{line_feed}

-- the line for all arrivals: how many there were, how many left and how many were dropped
abbrev pub packets_line : ℕ → ℕ → ℕ → List ℕ
packets_line packets left dropped =
    codes "packets " ++ decimal packets ++ codes " left " ++ decimal left ++ codes " dropped " ++ decimal dropped ++ line_feed

-- the line for a node: how many packets it saw and how many it dropped
abbrev pub node_line : List ℕ → NodeSum → List ℕ
node_line name sum = codes "node " ++ name ++ codes " seen " ++ decimal sum.seen ++ codes " dropped " ++ decimal sum.dropped ++ line_feed

-- a line for each node, with what is counted there
abbrev pub node_lines : List Node → List NodeSum → List ℕ
node_lines nodes sums = flat_map (λ pair. node_line pair.0.name pair.1) (zip nodes sums)

-- the number due, or `-` where it passes 64 bits
abbrev pub next_text : Option ℕ → List ℕ
next_text None = codes "-"
next_text (Some number) = decimal number

-- what the sequence numbers at the exit of a flow tell
abbrev pub tally_text : Tally → List ℕ
tally_text tally = codes " next " ++ next_text tally.next ++ codes " gaps " ++ decimal tally.gaps ++ codes " missed " ++ decimal tally.missed
    ++ codes " late " ++ decimal tally.late ++ codes " repeats " ++ decimal tally.repeats

-- whether the packets of a flow have sequence numbers, of 64 bits or of 32 (RFC 9197 section 4.6)
abbrev pub is_numbered : Option ℕ → Bool
is_numbered None = false
is_numbered (Some kind) = asks kind 0 || asks kind 1

-- the line for a flow: how many packets were enclosed and came out, how many carried direct export, and the tally where they
-- are numbered
abbrev pub flow_line : Flow → ℕ → ℕ → ℕ → Tally → List ℕ
flow_line flow enclosed exited direct tally = codes "flow " ++ flow.name ++ codes " enclosed " ++ decimal enclosed
    ++ codes " exited " ++ decimal exited ++ codes " direct " ++ decimal direct
    ++ (if is_numbered flow.edge then tally_text tally else []) ++ line_feed

-- the line of a flow with these sums
abbrev pub flow_sum_line : Flow → FlowSum → List ℕ
flow_sum_line flow sum = flow_line flow sum.enclosed sum.exited sum.direct (tally_in sum.receiver)

-- one for each flow
abbrev pub flow_lines : List Flow → List FlowSum → List ℕ
flow_lines flows sums = flat_map (λ pair. flow_sum_line pair.0 pair.1) (zip flows sums)

-- the lines of these sums
abbrev pub sums_text : Domain → Sums → List ℕ
sums_text domain sums =
    packets_line sums.packets sums.left sums.dropped ++ node_lines (nodes domain) sums.nodes ++ flow_lines (flows domain) sums.flows

-- the line of the flow at this place of the file, by the arrivals
abbrev pub arrivals_flow_line : List Itinerary → Flow → ℕ → List ℕ
arrivals_flow_line arrivals flow place = flow_line flow (enclosed_in place arrivals) (count_by (is_exited_in place) arrivals)
    (count_by (is_direct_in place) arrivals) (tally_of (exit_numbers place arrivals))

-- The lines of arrivals, of which the itineraries are given: how many there are, how many left, how
-- many were dropped; for each node how often it saw one and how many it dropped; and for each flow how
-- many were enclosed, how many of them reached the exit, how many carry a direct export, and what the
-- sequence numbers tell of those that reached the exit.
abbrev pub arrivals_text : Domain → List Itinerary → List ℕ
arrivals_text domain arrivals =
    packets_line (length arrivals) (count_by (λ arrival. has_left arrival.end) arrivals) (count_by (λ arrival. is_dropped arrival.end) arrivals)
    ++ flat_map (λ entry. node_line entry.1.name (node_sum arrivals entry.0)) (enumerate_from 0 (nodes domain))
    ++ flat_map (λ entry. arrivals_flow_line arrivals entry.1 entry.0) (enumerate_from 0 (flows domain))
