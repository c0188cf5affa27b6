-- What a job tells the outputs of a run by its octets as they stand, whether its visits are done or not.
use Rattle.std.specs.Prelude.{◌≡◌, ℕ, suc, Bool, true, false, if◌then◌else◌, List, [], ◌∷◌, ◌++◌, Option, Some, None, drop, slice_get}
use Rattle.ioam_batch.specs.Crossings.{crossings, joined}
use Rattle.ioam_batch.specs.declared.job.Job.{Job}
use Rattle.ioam_ip.specs.Lowered.{lowered}
use Rattle.ioam_ip.specs.Packet.{IsPacket}
use Rattle.ioam_pcap.specs.Text.{Sent, records_text}
use Rattle.ioam_plan.specs.declared.itinerary.End.{End}
use Rattle.ioam_plan.specs.declared.itinerary.End.TheVariants.{Left, Drop}
use Rattle.ioam_plan.specs.declared.itinerary.Visit.{Visit}
use Rattle.ioam_report_lines.specs.HopText.{hop_traces_text}
use Rattle.ioam_report.specs.RunText.{arrival_line}
use Rattle.ioam_run_outputs.specs.Outlets.{of_outlets}
use Rattle.ioam_topo.specs.declared.domain.Domain.{Domain}
use Rattle.ioam_topo.specs.declared.ids.FlowId.{FlowId}
use Rattle.ioam_batch.specs.Inner.{InnerAt}
use Rattle.ioam_batch.specs.Numbers.{Numbers}
use Rattle.ioam_run_texts.specs.Texts.{goes_by, last_time, sent_by_end}

-- ---- the capture of a port

-- a packet that comes out of its tunnel, with its hop limit one less, at this time
abbrev pub lowered_at : ℕ → Option (List ℕ) → List Sent
lowered_at time None = []
lowered_at time (Some inner) = record { time = time; octets = lowered 1 inner } ∷ []

-- what a packet carries in its tunnel: the octets from the place on at which the nested packet stands; there are none where
-- there is no such place, or no packet
abbrev pub IsInside : List ℕ → Option (List ℕ) → Type 0
IsInside packet None = (place : ℕ) → IsPacket packet → InnerAt packet place → ⊥
IsInside packet (Some inner) = IsPacket packet × ((place : ℕ) × InnerAt packet place × (inner ≡ drop place packet))

-- what leaves of a job by the octets of its packet as they stand, at the time of its last visit: the packet; of one that reached the
-- exit of its tunnel what it carries, with its hop limit one less; nothing of one that did not
abbrev pub LeavesBy : Option (FlowId × Numbers) → Bool → Job → List Sent → Type 0
LeavesBy None exited job left = left ≡ record { time = last_time job.itinerary.visits; octets = job.packet.items } ∷ []
LeavesBy (Some carried) true job left =
    (inner : Option (List ℕ)) × IsInside job.packet.items inner × (left ≡ lowered_at (last_time job.itinerary.visits) inner)
LeavesBy (Some carried) false job left = left ≡ []

-- where its journey ends so: only by a port does something leave
abbrev pub LeavesAt : End → Job → List Sent → Type 0
LeavesAt (Left exit) job left = LeavesBy job.itinerary.carried job.itinerary.exited job left
LeavesAt (Drop reason node) job left = left ≡ []

-- ---- the capture of a tap

-- a packet that was kept, at this time
abbrev pub kept_at : ℕ → Option (List ℕ) → List Sent
kept_at time None = []
kept_at time (Some octets) = record { time = time; octets = octets } ∷ []

-- what was kept of a visit, if it goes by the link at this place
abbrev pub kept_on : ℕ → Visit → Option (List ℕ) → List Sent
kept_on link visit kept = if goes_by link visit.way then kept_at visit.time kept else []

-- of these visits, of which the first is the one with this number
abbrev pub kept_from : ℕ → List (Option (List ℕ)) → ℕ → List Visit → List Sent
kept_from link kept number [] = []
kept_from link kept number (visit ∷ visits) = kept_on link visit (joined (slice_get kept number)) ++ kept_from link kept (suc number) visits

-- what a job's visits sent on the link with this number, each packet at its time
abbrev pub job_crossed : Job → ℕ → List Sent
job_crossed job link = kept_from link (crossings job.crossings) 0 job.itinerary.visits

-- ---- the report

-- the lines of the traces of a packet that reached the exit of its tunnel; there are none of any other
abbrev pub hop_lines : Bool → Option (FlowId × Numbers) → List ℕ → List ℕ
hop_lines true (Some carried) packet = hop_traces_text packet
hop_lines true None packet = []
hop_lines false carried packet = []

-- a job's lines in the report: its arrival's, and those of its traces where it reached the exit of its tunnel
abbrev pub job_lines : Domain → ℕ → Job → List ℕ
job_lines domain number job = arrival_line domain number job.itinerary ++ hop_lines job.itinerary.exited job.itinerary.carried job.packet.items

-- ---- all outputs

-- what a job of the arrival with this number adds to each, if these packets leave: their records to the capture of the port by which
-- its journey ends, what was kept of its visits to those of the taps, the lines, the export records
abbrev pub job_texts : Domain → ℕ → Job → List Sent → List (List ℕ)
job_texts domain number job left = of_outlets domain (λ port. records_text (sent_by_end port left job.itinerary.end))
    (λ link. records_text (job_crossed job link)) (job_lines domain number job) job.room.exports
