-- What the outputs are told of one arrival, by its job as it stands.
use Rattle.std.specs.Prelude.{◌≡◌, ℕ, List, Option, Some}
use Rattle.ioam_batch.specs.Jobs.{HasRun, IsJobOf}
use Rattle.ioam_batch.specs.declared.job.Job.{Job}
use Rattle.ioam_batch.specs.Sample.{Sample}
use Rattle.ioam_ip.specs.Chain.{IsSound}
use Rattle.ioam_ip.specs.Packet.{IsPacket}
use Rattle.ioam_pcap.specs.Text.{Sent}
use Rattle.ioam_topo.specs.declared.domain.Domain.{Domain}
use Rattle.ioam_batch.specs.Wire.{IsTunnel, Tunnel}
use Rattle.ioam_node_visit.specs.Visits.{Visited, closed_after}
use Rattle.ioam_run_texts.specs.Fate.{Fate, CanRide}
use Rattle.ioam_run_texts.specs.Texts.{added_by, fate_leaves, fate_sent}

-- a job that ran, of what becomes of an arrival
pub record RanFor (domain : Domain) (readings : List (List Sample)) (fate : Fate) (job : Job) : Type 0 where
  pub was : Job
  pub rides : CanRide domain fate
  pub of : IsJobOf domain fate.packet fate.itinerary was
  pub ran : HasRun domain readings was job

-- these texts are those of the arrival with this number, if the job is one of it that ran
abbrev pub AreTextsOf : Domain → ℕ → Job → List (List ℕ) → Type 0
AreTextsOf domain number job added = (readings : List (List Sample)) (fate : Fate) → RanFor domain readings fate job
    → added ≡ added_by domain readings number fate

-- ---- the packet that leaves

-- what an enclosed packet carries at the exit of its tunnel, if these octets are one
abbrev pub GivesInside : List ℕ → Option (List ℕ) → Type 0
GivesInside packet inner = (domain : Domain) (readings : List (List Sample)) (tunnel : Tunnel) (visits : List Visited) (last : Visited) → IsTunnel tunnel
    → IsPacket tunnel.inner → IsSound tunnel.inner → packet ≡ closed_after domain readings tunnel visits last → inner ≡ Some tunnel.inner

-- the packets that leave where a journey ends by a port, none or one
abbrev pub AreLeaving : Domain → Job → List Sent → Type 0
AreLeaving domain job sent = (readings : List (List Sample)) (fate : Fate) → RanFor domain readings fate job → sent ≡ fate_leaves fate

-- those that leave by each port
abbrev pub AreSent : Domain → Job → (ℕ → List Sent) → Type 0
AreSent domain job sent = (readings : List (List Sample)) (fate : Fate) → RanFor domain readings fate job
    → (port : ℕ) → sent port ≡ fate_sent port fate
