-- Jobs: all visits of one packet.
use Rattle.std.specs.Prelude.{ℕ, ◌≡◌, ◌<◌, ◌≤◌, ◌+◌, ◌-◌, ◌*◌, if◌then◌else◌, List, [], Option, Some, None, IfSome, IsSome, All, length, map, slice_index, vec_capacity}
use Rattle.ioam_batch.specs.Crossings.{crossings, filled, taps_of}
use Rattle.ioam_batch.specs.Ran.{RanBy, lowered_from}
use Rattle.ioam_batch.specs.Taps.{is_tapped, tap_count}
use Rattle.ioam_batch.specs.declared.job.Job.{Job}
use Rattle.ioam_clock.specs.declared.sample.Sample.{Sample}
use Rattle.ioam_ip.specs.Chain.{IsSound}
use Rattle.ioam_ip.specs.Hop.{option_count}
use Rattle.ioam_ip.specs.Lowered.{lowered}
use Rattle.ioam_ip.specs.Packet.{IsPacket}
use Rattle.ioam_plan.specs.declared.itinerary.Itinerary.{Itinerary}
use Rattle.ioam_plan.specs.Inside.{EndsInside}
use Rattle.ioam_plan.specs.Rides.{IsVisitIn, SendsBy}
use Rattle.ioam_topo.specs.Domain.{flows, ports}
use Rattle.ioam_topo.specs.declared.domain.Domain.{Domain}
use Rattle.ioam_topo.specs.declared.ids.FlowId.{FlowId}
use Rattle.ioam_tunnel.specs.Enclosed.{tunnel_of}
use Rattle.ioam_tunnel.specs.Wire.{IsTunnel, Tunnel, no_elements, wire}
use Rattle.ioam_tunnel.specs.declared.numbers.Numbers.{Numbers}

-- ---- a job

-- how many octets it has room for: its packet, that again for each visit that sends it on a link with a tap, and 274 for
-- each IOAM option that a visit may meet
abbrev pub reserved_of : Job → ℕ
reserved_of job =
    length job.packet.items + filled job.crossings.size (taps_of job.crossings) + 274 * (job.room.spare + length job.room.notes)

-- what is kept of each visit of it is what this domain asks: octets exactly of those that send on a link with a tap
abbrev pub HasTaps : Domain → Job → Type 0
HasTaps domain job = taps_of job.crossings ≡ map (is_tapped domain) job.itinerary.visits

-- ---- at any time

-- before its visits and after them: its way ends in the domain, and its flow is one of it; its packet is short, and an enclosed one is whole
pub record Holds (domain : Domain) (job : Job) : Type 0 where
  pub port : job.itinerary.port.0 < length (ports domain)
  pub ends : EndsInside domain job.itinerary.end
  pub flow : IfSome job.itinerary.carried (λ carried. carried.0.0 < length (flows domain))
  pub size : length job.packet.items ≤ 131072
  pub sound : IsSome job.itinerary.carried → IsPacket job.packet.items × IsSound job.packet.items

-- ---- before its visits

-- an enclosed packet, before any visit: its hop limit allows the visits
pub record GoesInTunnel (itinerary : Itinerary) (packet : List ℕ) : Type 0 where
  pub is_packet : IsPacket packet
  pub is_sound : IsSound packet
  pub sends : SendsBy itinerary.exited itinerary.visits
  pub hops : length itinerary.visits ≤ slice_index packet 7 + (if itinerary.exited then 1 else 0)

-- before any visit: the packet's hop limit allows all of them, as it is or in its tunnel
abbrev pub GoesBy : Option (FlowId × Numbers) → Itinerary → List ℕ → Type 0
GoesBy None itinerary packet = length itinerary.visits ≤ slice_index packet 7 - 1
GoesBy (Some carried) itinerary packet = GoesInTunnel itinerary packet

-- for how many IOAM options there is room: those of an enclosed packet, at each visit
abbrev pub spare_by : Option (FlowId × Numbers) → Itinerary → List ℕ → ℕ
spare_by None itinerary packet = 0
spare_by (Some carried) itinerary packet = length itinerary.visits * option_count packet

-- how many octets the visits of a packet ask for in all, by its length, the taps on its way and its IOAM options: the packet, that
-- again for each visit that sends it on a link with a tap, and 274 for each IOAM option that a visit may meet
abbrev pub asked_for : Domain → Itinerary → List ℕ → ℕ
asked_for domain itinerary packet =
    length packet + length packet * tap_count domain itinerary.visits + 274 * spare_by itinerary.carried itinerary packet

-- no visit of it is done
pub record IsFresh (domain : Domain) (job : Job) : Type 0 where
  pub visits : All (IsVisitIn domain) job.itinerary.visits
  pub past : job.crossings.past ≡ []
  pub ahead : job.crossings.ahead ≡ map (is_tapped domain) job.itinerary.visits
  pub size : length job.packet.items ≡ job.crossings.size
  pub notes : job.room.notes ≡ []
  pub exports : job.room.exports ≡ []
  pub spare : job.room.spare ≡ spare_by job.itinerary.carried job.itinerary job.packet.items
  pub goes : GoesBy job.itinerary.carried job.itinerary job.packet.items

-- its packet is the one that goes by the itinerary, or the outer packet around it, before any visit
abbrev pub HoldsBy : Domain → List ℕ → Option (FlowId × Numbers) → List ℕ → Type 0
HoldsBy domain packet None octets = octets ≡ packet
HoldsBy domain packet (Some carried) octets =
    IsTunnel (tunnel_of domain carried.0 carried.1 packet) × (octets ≡ wire (tunnel_of domain carried.0 carried.1 packet) 0 no_elements)

-- the job is that of this packet and itinerary, and no visit of it is done
pub record IsJobOf (domain : Domain) (packet : List ℕ) (itinerary : Itinerary) (job : Job) : Type 0 where
  pub itinerary_is : job.itinerary ≡ itinerary
  pub holds : HoldsBy domain packet itinerary.carried job.packet.items
  pub fresh : IsFresh domain job

-- ---- after them

-- an enclosed packet, whatever its tunnel
abbrev pub RunsInTunnel : Domain → List (List Sample) → Job → Job → Type 0
RunsInTunnel domain readings old new = (tunnel : Tunnel) → IsTunnel tunnel → old.packet.items ≡ wire tunnel 0 no_elements
    → RanBy domain readings tunnel old.itinerary.exited old.itinerary.visits new.packet.items (crossings new.crossings) new.room

-- one that isn't enclosed
pub record RunsPlain (domain : Domain) (old new : Job) : Type 0 where
  pub packet : new.packet.items ≡ lowered (length old.itinerary.visits) old.packet.items
  pub crossed : crossings new.crossings ≡ lowered_from old.packet.items 0 (map (is_tapped domain) old.itinerary.visits)
  pub room : new.room ≡ old.room

-- what the visits of a job made of it, as its packet is enclosed or not
abbrev pub RunsBy : Domain → List (List Sample) → Option (FlowId × Numbers) → Job → Job → Type 0
RunsBy domain readings None old new = RunsPlain domain old new
RunsBy domain readings (Some carried) old new = RunsInTunnel domain readings old new

-- no memory was taken for it or handed back: its packet, what its visits sent and what they noted stand in vectors of the capacities
-- that they had
pub record KeepsMemory (old new : Job) : Type 0 where
  pub packet : vec_capacity new.packet ≡ vec_capacity old.packet
  pub crossings : new.crossings.capacities ≡ old.crossings.capacities
  pub room : new.room.capacities ≡ old.room.capacities

-- all visits of it are done
pub record HasRun (domain : Domain) (readings : List (List Sample)) (old new : Job) : Type 0 where
  pub itinerary : new.itinerary ≡ old.itinerary
  pub reserved : reserved_of new ≡ reserved_of old
  pub keeps : Holds domain old → Holds domain new
  pub runs : RunsBy domain readings old.itinerary.carried old new
  pub taps : taps_of new.crossings ≡ taps_of old.crossings
  pub memory : KeepsMemory old new
