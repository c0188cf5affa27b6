-- What becomes of a packet of another network that comes to a node, and what the node makes of one that it sends.
use Rattle.std.specs.Prelude.{◌≡◌, ◌↔◌, ◌⊎◌, ℕ, ◌-◌, ◌≤◌, ⊤, Bool, IsTrue, nat_eq, if◌then◌else◌, List, [], ◌∷◌, length, slice_get, slice_index, slice_range, Result, Ok, Err}
use Rattle.std.specs.Int.{w128, from_be_bytes}
use Rattle.std.specs.Option.{option_map_or}
use Rattle.ioam_ip.specs.Chain.{IsSound}
use Rattle.ioam_ip.specs.ChainOptions.{CarriesIoam}
use Rattle.ioam_ip.specs.Clean.{MayLeave}
use Rattle.ioam_ip.specs.Framing.{Framing, Holds, NoIpv6, CutShort, TooShort}
use Rattle.ioam_ip.specs.Hop.{hop_stepped}
use Rattle.ioam_ip.specs.Lowered.{lowered}
use Rattle.ioam_ip.specs.Packet.{IsPacket}
use Rattle.ioam_node.specs.Choice.{choice}
use Rattle.ioam_node.specs.declared.place.Place.{Place}
use Rattle.ioam_node.specs.declared.reason.Reason.{Reason}
use Rattle.ioam_node.specs.declared.reason.Reason.TheVariants as reason
use Rattle.ioam_pcap.specs.Entries.{Taken}
use Rattle.ioam_node.specs.Outward.{outward_of}
use Rattle.ioam_run_stream.specs.Frame.{taken_framing}
use Rattle.ioam_topo.specs.Domain.{nodes, links, ports}
use Rattle.ioam_topo.specs.Forward.{IsWayFrom}
use Rattle.ioam_topo.specs.declared.ids.Way.{Way}
use Rattle.ioam_topo.specs.declared.ids.Way.TheVariants as way
use Rattle.ioam_node_visit.specs.Counted.{hop_exports, hop_notes}
use Rattle.ioam_node_visit.specs.Exports.{records_of}
use Rattle.ioam_node_visit.specs.Notes.{notes_of}
use Rattle.ioam_node_visit.specs.Step.{node_step}
use Rattle.ioam_node_visit.specs.declared.note.NodeNote.{NodeNote}
use Rattle.ioam_run_node.specs.Seat.{Seat}

-- the packet, as it came at a time, goes on by a way; or it is dropped, and why
pub data Passage : Type 0 where
  Goes : (time : ℕ) → Way → (packet : List ℕ) → Passage
  Drops : Reason → Passage

-- the hop limit and the target of a packet (RFC 8200 section 3)
abbrev pub hops_of : List ℕ → ℕ
hops_of packet = slice_index packet 7

-- the target of a packet, as a number of 128 bits
abbrev pub target_of : List ℕ → ℕ
target_of packet = from_be_bytes w128 (slice_range packet 24 40)

-- by where it goes, or why it doesn't
abbrev pub passage_by : ℕ → List ℕ → Result Way Reason → Passage
passage_by time packet (Ok way) = Goes time way packet
passage_by time packet (Err why) = Drops why

module _ (seat : Seat) where
  -- the address of the node
  abbrev pub own_address : ℕ
  own_address = option_map_or (λ node. node.address) (slice_get (nodes seat.domain) seat.node.0) 0

  -- where a packet goes: nowhere where it is for the node itself; else as any node sends it on, but one that has IOAM
  -- by no port, since IOAM data stays in the domain (RFC 9197 section 3)
  abbrev pub way_for : Bool → List ℕ → Result Way Reason
  way_for ioam packet = if nat_eq (target_of packet) own_address then Err reason.Local
      else choice seat.domain seat.node.0 ioam (hops_of packet) (target_of packet) (length packet)

  -- what becomes of a packet: its chain isn't whole, or it goes where it may
  abbrev pub PacketPassage : ℕ → List ℕ → Passage → Type 0
  PacketPassage time packet passage = ((IsSound packet → ⊥) × (passage ≡ Drops reason.Chain))
      ⊎ (IsSound packet × ((ioam : Bool) × (IsTrue ioam ↔ CarriesIoam packet) × (passage ≡ passage_by time packet (way_for ioam packet))))

  -- of a frame
  abbrev pub FramingPassage : ℕ → Framing → Passage → Type 0
  FramingPassage time (Holds packet) passage = PacketPassage time packet passage
  FramingPassage time NoIpv6 passage = passage ≡ Drops reason.NotIpv6
  FramingPassage time CutShort passage = passage ≡ Drops reason.Cut
  FramingPassage time TooShort passage = passage ≡ Drops reason.Length

  -- of a record of a capture
  abbrev pub HasPassage : Taken → Passage → Type 0
  HasPassage t passage = FramingPassage t.entry.time (taken_framing t) passage

  -- of each
  abbrev pub ArePassages : List Taken → List Passage → Type 0
  ArePassages [] [] = ⊤
  ArePassages [] (passage ∷ passages) = ⊥
  ArePassages (t ∷ ts) [] = ⊥
  ArePassages (t ∷ ts) (passage ∷ passages) = HasPassage t passage × ArePassages ts passages

  -- where the node is on a way
  abbrev pub place_on : Way → Place
  place_on sent = record { node = seat.node; inward = seat.inward; outward = outward_of seat.domain sent }

  -- the packet that is sent: its hop limit is lowered by one, and the node adds to its traces (RFC 9197 section 4.4)
  unfoldable pub passed_on : ℕ → Way → List ℕ → List ℕ
  passed_on time sent packet = hop_stepped (node_step seat.domain seat.samples (place_on sent) time (hops_of packet - 1)) (lowered 1 packet)

  -- what the node notes of its IOAM options
  unfoldable pub noted : ℕ → Way → List ℕ → List NodeNote
  noted time sent packet = hop_notes (notes_of seat.domain seat.samples (place_on sent) time (hops_of packet - 1)) packet

  -- the octets of the records that it exports (RFC 9326 section 3.2)
  unfoldable pub exported : ℕ → Way → List ℕ → List ℕ
  exported time sent packet = hop_exports (records_of seat.domain seat.samples (place_on sent) time (hops_of packet - 1)) packet

  -- what leaves by a port is one IPv6 packet, with a whole chain and without IOAM
  abbrev pub LeavesClean : Passage → Type 0
  LeavesClean (Goes time (way.Port port) packet) = MayLeave (passed_on time (way.Port port) packet)
  LeavesClean (Goes time (way.Link link) packet) = ⊤
  LeavesClean (Drops why) = ⊤

  -- a packet that goes on can be sent
  pub record CanGo (sent : Way) (packet : List ℕ) : Type 0 where
    pub is_packet : IsPacket packet
    pub sound : IsSound packet
    pub hops : 2 ≤ hops_of packet
    pub inside : IsWayFrom (links seat.domain) (ports seat.domain) seat.node.0 sent
    pub ioam : Bool
    pub is_ioam : IsTrue ioam ↔ CarriesIoam packet
    pub way_is : way_for ioam packet ≡ Ok sent
