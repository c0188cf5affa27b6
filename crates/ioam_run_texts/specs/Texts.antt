-- What the outputs of a run are told of the arrivals: a capture for each port, one for each link with a tap, the report
-- and the export records.
use Rattle.std.specs.Prelude.{ℕ, ◌+◌, Bool, true, false, nat_eq, if◌then◌else◌, List, [], ◌∷◌, ◌++◌, length, map, Option, Some, None}
use Rattle.std.specs.List.{flat_map}
use Rattle.ioam_batch.specs.Along.{along}
use Rattle.ioam_batch.specs.Ran.{exported_at, passed}
use Rattle.ioam_batch.specs.Sends.{packet_after}
use Rattle.ioam_batch.specs.Sample.{Sample}
use Rattle.ioam_node_visit.specs.Kind.{words}
use Rattle.ioam_ip.specs.Lowered.{lowered}
use Rattle.ioam_run_outputs.specs.Outlets.{of_outlets}
use Rattle.ioam_pcap.specs.Text.{Sent, records_text, capture_text}
use Rattle.ioam_plan.specs.declared.itinerary.Itinerary.{Itinerary}
use Rattle.ioam_plan.specs.declared.itinerary.Visit.{Visit}
use Rattle.ioam_plan.specs.declared.itinerary.End.{End}
use Rattle.ioam_plan.specs.declared.itinerary.End.TheVariants.{Left, Drop}
use Rattle.ioam_report.specs.RunText.{arrival_line}
use Rattle.ioam_report.specs.SumsText.{sums_text, arrivals_text}
use Rattle.ioam_report_lines.specs.TraceText.{whole_lines}
use Rattle.ioam_report.specs.declared.sums.Sums.{Sums}
use Rattle.ioam_topo.specs.declared.domain.Domain.{Domain}
use Rattle.ioam_topo.specs.declared.ids.FlowId.{FlowId}
use Rattle.ioam_topo.specs.declared.ids.Way.{Way}
use Rattle.ioam_topo.specs.declared.ids.Way.TheVariants as way
use Rattle.ioam_node_visit.specs.Data.{is_over, recorded}
use Rattle.ioam_batch.specs.Enclosed.{tunnel_of}
use Rattle.ioam_batch.specs.Wire.{Room, Tunnel}
use Rattle.ioam_batch.specs.Numbers.{Numbers}
use Rattle.ioam_node_visit.specs.Visits.{Visited, elements}
use Rattle.ioam_run_texts.specs.Fate.{Fate}

-- ---- the capture of a port

-- when the last visit was
abbrev pub last_time : List Visit → ℕ
last_time [] = 0
last_time (visit ∷ []) = visit.time
last_time (visit ∷ next ∷ visits) = last_time (next ∷ visits)

-- a packet as it leaves, at the time of its last visit: its hop limit is less by one for each visit; that of one that was
-- enclosed by two, one where it entered its tunnel and one where it left that (RFC 2473 section 3). One that didn't reach
-- its exit doesn't leave, and its journey ends by no port (a law)
abbrev pub leaves_by : List ℕ → List Visit → Bool → Option (FlowId × Numbers) → List Sent
leaves_by packet visits exited None = record { time = last_time visits; octets = lowered (length visits) packet } ∷ []
leaves_by packet visits true (Some carried) = record { time = last_time visits; octets = lowered 2 packet } ∷ []
leaves_by packet visits false (Some carried) = []

-- the packet of an arrival as it would leave, at the time of its last visit; none of one that was enclosed and didn't reach
-- its exit
abbrev pub fate_leaves : Fate → List Sent
fate_leaves fate = leaves_by fate.packet fate.itinerary.visits fate.itinerary.exited fate.itinerary.carried

-- what is sent by the port at this place of packets that leave where a journey ends so
abbrev pub sent_by_end : ℕ → List Sent → End → List Sent
sent_by_end port leaves (Left exit) = if nat_eq port exit.0 then leaves else []
sent_by_end port leaves (Drop reason node) = []

-- of one arrival
abbrev pub fate_sent : ℕ → Fate → List Sent
fate_sent port fate = sent_by_end port (fate_leaves fate) fate.itinerary.end

-- of all, in the order of arrival
abbrev pub sent_by : ℕ → List Fate → List Sent
sent_by port fates = flat_map (fate_sent port) fates

-- the capture of the packets that leave by the port at this place
abbrev pub out_text : ℕ → List Fate → List ℕ
out_text port fates = capture_text (sent_by port fates)

-- a way is the link at this place
abbrev pub goes_by : ℕ → Option Way → Bool
goes_by link None = false
goes_by link (Some (way.Link sent)) = nat_eq link sent.0
goes_by link (Some (way.Port port)) = false

-- what the sums count of an arrival
abbrev pub way_of : Fate → Itinerary
way_of fate = fate.itinerary

-- the itineraries of arrivals, which the sums count
abbrev pub ways_of : List Fate → List Itinerary
ways_of fates = map way_of fates

module _ (domain : Domain) (readings : List (List Sample)) where
  -- ---- the capture of a tap

  -- what a visit behind those that are done sends on the link at this place: the packet as these visits sent it, at the
  -- time of the visit
  abbrev pub crossing_at : ℕ → Fate → List Visit → Visit → List Sent
  crossing_at link fate done visit = if goes_by link visit.way
      then record { time = visit.time; octets = packet_after domain readings fate.packet fate.itinerary.carried (done ++ visit ∷ []) } ∷ []
      else []

  -- of one arrival, in the order of its visits
  abbrev pub fate_crossed : ℕ → Fate → List Sent
  fate_crossed link fate = along (crossing_at link fate) [] fate.itinerary.visits

  -- of all, in the order of arrival
  abbrev pub crossed_by : ℕ → List Fate → List Sent
  crossed_by link fates = flat_map (fate_crossed link) fates

  -- the capture of what crossed a link
  abbrev pub tap_text : ℕ → List Fate → List ℕ
  tap_text link fates = capture_text (crossed_by link fates)

  -- ---- the report

  -- the lines of a trace of a tunnel behind these visits: the elements of those whose nodes know its namespace, as many of
  -- the first as fit, flagged where not all do (RFC 9197 section 4.4.1)
  abbrev pub path_lines : Tunnel → List Visited → Room → List ℕ
  path_lines tunnel visits room =
      let given = elements domain readings tunnel visits room in
      whole_lines room.namespace room.kind (if is_over room.capacity given then 1 else 0) (words room.kind) (recorded room.capacity given)

  -- those of all traces of a packet that reached the exit of its tunnel; there are none of any other
  abbrev pub paths_by : List ℕ → List Visit → Bool → Option (FlowId × Numbers) → List ℕ
  paths_by packet visits true (Some carried) =
      let tunnel = tunnel_of domain carried.0 carried.1 packet in
      flat_map (path_lines tunnel (map passed visits)) tunnel.traces
  paths_by packet visits true None = []
  paths_by packet visits false carried = []

  -- the lines of an arrival's traces
  abbrev pub fate_paths : Fate → List ℕ
  fate_paths fate = paths_by fate.packet fate.itinerary.visits fate.itinerary.exited fate.itinerary.carried

  -- the lines of one arrival
  abbrev pub fate_lines : ℕ → Fate → List ℕ
  fate_lines number fate = arrival_line domain number fate.itinerary ++ fate_paths fate

  -- the lines of arrivals that are counted from a number
  abbrev pub report_lines : ℕ → List Fate → List ℕ
  report_lines number [] = []
  report_lines number (fate ∷ fates) = fate_lines number fate ++ report_lines (number + 1) fates

  -- the lines, and the sums behind them
  abbrev pub report_text : List Fate → List ℕ
  report_text fates = report_lines 1 fates ++ arrivals_text domain (ways_of fates)

  -- ---- the export records

  -- what the visits of an enclosed packet export
  abbrev pub exports_by : List ℕ → List Visit → Option (FlowId × Numbers) → List ℕ
  exports_by packet visits None = []
  exports_by packet visits (Some carried) = along (exported_at domain readings (tunnel_of domain carried.0 carried.1 packet)) [] visits

  -- the octets of the records that an arrival's visits export
  abbrev pub fate_exports : Fate → List ℕ
  fate_exports fate = exports_by fate.packet fate.itinerary.visits fate.itinerary.carried

  -- by arrival, then by visit
  abbrev pub exports_text : List Fate → List ℕ
  exports_text fates = flat_map fate_exports fates

  -- ---- all outputs

  -- what they hold of these arrivals
  abbrev pub texts_of : List Fate → List (List ℕ)
  texts_of fates = of_outlets domain (λ port. out_text port fates) (λ link. tap_text link fates) (report_text fates) (exports_text fates)

  -- the same without the sums
  abbrev pub texts_so_far : List Fate → List (List ℕ)
  texts_so_far fates = of_outlets domain (λ port. out_text port fates) (λ link. tap_text link fates) (report_lines 1 fates) (exports_text fates)

  -- what one arrival more adds, which has this number
  abbrev pub added_by : ℕ → Fate → List (List ℕ)
  added_by number fate = of_outlets domain (λ port. records_text (fate_sent port fate)) (λ link. records_text (fate_crossed link fate))
      (fate_lines number fate) (fate_exports fate)

-- what the sums add
abbrev pub sums_by : Domain → Sums → List (List ℕ)
sums_by domain sums = of_outlets domain (λ port. []) (λ link. []) (sums_text domain sums) []

-- the heads of captures
abbrev pub heads : Domain → List (List ℕ)
heads domain = of_outlets domain (λ port. capture_text []) (λ link. capture_text []) [] []
