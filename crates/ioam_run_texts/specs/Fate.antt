-- What becomes of the arrivals of a domain.
use Rattle.std.specs.Prelude.{◌≡◌, ℕ, ⊤, IsSomeAnd, List, [], ◌∷◌, ◌++◌, slice_get}
use Rattle.ioam_batch.specs.Sample.{Sample}
use Rattle.ioam_ip.specs.Framing.{framing_of}
use Rattle.ioam_ip.specs.declared.layer.Layer.{Layer}
pub use Rattle.ioam_node_visit.specs.Admission.{packet_of}
use Rattle.ioam_node_visit.specs.Admission.{Admits}
use Rattle.ioam_node_visit.specs.Admit.{Admit}
use Rattle.ioam_pcap.specs.Cut.{is_cut}
use Rattle.ioam_pcap.specs.Entries.{Entry, IsShort}
use Rattle.ioam_plan.specs.Rides.{Rides}
use Rattle.ioam_plan.specs.Travels.{Travels}
use Rattle.ioam_plan.specs.declared.itinerary.Itinerary.{Itinerary}
use Rattle.ioam_topo.specs.Domain.{ports}
use Rattle.ioam_topo.specs.declared.domain.Domain.{Domain}
use Rattle.ioam_topo.specs.declared.ids.PortId.{PortId}

-- an arrival: the port, the layer that its frame begins at, and its record
pub record Frame : Type 0 where
  pub port : PortId
  pub layer : Layer
  pub entry : Entry

-- what becomes of it: the packet that was taken in, and its itinerary
pub record Fate : Type 0 where
  pub packet : List ℕ
  pub itinerary : Itinerary

-- what is answered of a frame at the port where it arrives; it is cut where its record has fewer
-- octets than the frame had
abbrev pub IsAnswered : Domain → Frame → Admit → Type 0
IsAnswered domain frame answer = IsSomeAnd (slice_get (ports domain) frame.port.0)
    (λ at. Admits domain at.node.0 (framing_of frame.layer (is_cut frame.entry) frame.entry.octets) answer)

-- what becomes of an arrival behind these, by what is answered of it at its port and how its packet goes from there; its
-- record has no more octets than one may have
pub record HasFate (domain : Domain) (readings : List (List Sample)) (earlier : List Itinerary) (frame : Frame) (fate : Fate) : Type 0 where
  pub answer : Admit
  pub answered : IsAnswered domain frame answer
  pub travels : Travels domain readings earlier frame.port frame.entry.time answer fate.itinerary
  pub packet : fate.packet ≡ packet_of answer
  pub short : IsShort frame.entry

-- what becomes of each, the first behind these: those behind it have its itinerary before them too
abbrev pub AreFatesFrom : Domain → List (List Sample) → List Itinerary → List Frame → List Fate → Type 0
AreFatesFrom domain readings earlier [] [] = ⊤
AreFatesFrom domain readings earlier [] (fate ∷ fates) = ⊥
AreFatesFrom domain readings earlier (frame ∷ frames) [] = ⊥
AreFatesFrom domain readings earlier (frame ∷ frames) (fate ∷ fates) =
    HasFate domain readings earlier frame fate × AreFatesFrom domain readings (earlier ++ fate.itinerary ∷ []) frames fates

-- what becomes of all arrivals of a domain, by the readings of its nodes
abbrev pub AreFates : Domain → List (List Sample) → List Frame → List Fate → Type 0
AreFates domain readings frames fates = AreFatesFrom domain readings [] frames fates

-- its packet can go by its itinerary
abbrev pub CanRide : Domain → Fate → Type 0
CanRide domain fate = Rides domain fate.packet fate.itinerary
