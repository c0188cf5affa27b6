-- The packet of a job as its visits send it.
use Rattle.std.specs.Prelude.{◌≡◌, ◌+◌, ℕ, true, List, Option, Some, None, length, slice_get, take}
use Rattle.ioam_batch.specs.Crossings.{crossings, joined}
use Rattle.ioam_batch.specs.Jobs.{IsJobOf}
use Rattle.ioam_batch.specs.Ran.{wired}
use Rattle.ioam_batch.specs.Taps.{is_tapped}
use Rattle.ioam_batch.specs.declared.job.Job.{Job}
use Rattle.ioam_clock.specs.declared.sample.Sample.{Sample}
use Rattle.ioam_ip.specs.Lowered.{lowered}
use Rattle.ioam_plan.specs.declared.itinerary.Itinerary.{Itinerary}
use Rattle.ioam_plan.specs.declared.itinerary.Visit.{Visit}
use Rattle.ioam_topo.specs.declared.domain.Domain.{Domain}
use Rattle.ioam_topo.specs.declared.ids.FlowId.{FlowId}
use Rattle.ioam_tunnel.specs.Enclosed.{tunnel_of}
use Rattle.ioam_tunnel.specs.declared.numbers.Numbers.{Numbers}

-- after these visits, at each of which it was sent on: its hop limit is less by one for each, or it is the outer packet around it
abbrev pub packet_after : Domain → List (List Sample) → List ℕ → Option (FlowId × Numbers) → List Visit → List ℕ
packet_after domain readings packet None visits = lowered (length visits) packet
packet_after domain readings packet (Some carried) visits = wired domain readings (tunnel_of domain carried.0 carried.1 packet) visits

-- these are the job of a packet before its visits and after them: each visit that sent it on a link with a tap sent it so
abbrev pub SendsSo : Domain → List (List Sample) → Job → Job → Type 0
SendsSo domain readings old new = (packet : List ℕ) (itinerary : Itinerary) (i : ℕ) (visit : Visit) → IsJobOf domain packet itinerary old
    → slice_get itinerary.visits i ≡ Some visit → is_tapped domain visit ≡ true
    → joined (slice_get (crossings new.crossings) i) ≡ Some (packet_after domain readings packet itinerary.carried (take (i + 1) itinerary.visits))
