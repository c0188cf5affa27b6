-- The captures that are written: big-endian, a section of no said length, and two interfaces, the
-- first of packets that begin with an IP header (link type 101), the second of packets with an
-- Ethernet header (link type 1), both in nanoseconds and with at most 262,144 octets of a packet.
use Rattle.std.specs.Prelude.{ℕ, ◌+◌, ◌-◌, ◌/◌, ◌%◌, ◌<◌, ◌≤◌, List, [], ◌∷◌, ◌++◌, length, take}
use Rattle.std.specs.List.{flat_map}
use Rattle.ioam_base.specs.Words.{two_octets, four_octets}
use Rattle.ioam_ip.specs.declared.layer.Layer.{Layer}
use Rattle.ioam_ip.specs.declared.layer.Layer.TheVariants.{Ethernet, Raw}
use Rattle.ioam_pcap.specs.declared.capture.Packet as packet
use Rattle.ioam_pcap.specs.Entries.{Taken}

-- the section block
abbrev pub section_octets : List ℕ
section_octets = 0x0a ∷ 0x0d ∷ 0x0d ∷ 0x0a ∷ 0 ∷ 0 ∷ 0 ∷ 0x1c ∷ 0x1a ∷ 0x2b ∷ 0x3c ∷ 0x4d ∷ 0 ∷ 1 ∷ 0 ∷ 0
    ∷ 0xff ∷ 0xff ∷ 0xff ∷ 0xff ∷ 0xff ∷ 0xff ∷ 0xff ∷ 0xff ∷ 0 ∷ 0 ∷ 0 ∷ 0x1c ∷ []

-- an interface block of a link type, with the resolution 9 and the end of its options
abbrev pub face_octets : ℕ → List ℕ
face_octets kind = (0 ∷ 0 ∷ 0 ∷ 1 ∷ 0 ∷ 0 ∷ 0 ∷ 0x20 ∷ []) ++ (two_octets kind ++ (0 ∷ 0 ∷ 0 ∷ 4 ∷ 0 ∷ 0
    ∷ 0 ∷ 9 ∷ 0 ∷ 1 ∷ 9 ∷ 0 ∷ 0 ∷ 0 ∷ 0 ∷ 0 ∷ 0 ∷ 0 ∷ 0 ∷ 0 ∷ 0 ∷ 0x20 ∷ []))

-- the link types of the interfaces, in order
abbrev pub face_kinds : List ℕ
face_kinds = 101 ∷ 1 ∷ []

-- the octets with which a capture begins: the section block and the interface blocks
abbrev pub head_octets : List ℕ
head_octets = section_octets ++ flat_map face_octets face_kinds

-- the index of the interface of a packet's layer
abbrev pub face_for : Layer → ℕ
face_for Raw = 0
face_for Ethernet = 1

-- the zeros behind so many captured octets, to a multiple of four
abbrev pub padding : ℕ → ℕ
padding captured = (4 - captured % 4) % 4

-- a packet block
abbrev pub packet_size : ℕ → ℕ
packet_size captured = 32 + captured + padding captured

-- the first twelve octets of a packet block: its type, its total length and its interface
abbrev pub packet_front : Layer → ℕ → List ℕ
packet_front link captured = (four_octets 6 ++ four_octets (packet_size captured)) ++ four_octets (face_for link)

-- the next sixteen: the time in two halves, and how many octets were captured and how many the packet had
abbrev pub packet_numbers : ℕ → ℕ → ℕ → List ℕ
packet_numbers time captured original =
    ((four_octets (time / 4294967296) ++ four_octets (time % 4294967296)) ++ four_octets captured) ++ four_octets original

-- what follows the captured octets: the padding, and the total length once more
abbrev pub packet_tail : ℕ → List ℕ
packet_tail captured = take (padding captured) (0 ∷ 0 ∷ 0 ∷ []) ++ four_octets (packet_size captured)

-- the block of a packet
abbrev pub packet_octets : Taken → List ℕ
packet_octets p =
    let captured = length p.entry.octets in
    packet_front p.link captured ++ (packet_numbers p.entry.time captured p.entry.original ++ (p.entry.octets ++ packet_tail captured))

-- the blocks of packets one behind the other, and a capture of them
abbrev pub packets_text : List Taken → List ℕ
packets_text [] = []
packets_text (p ∷ ps) = packet_octets p ++ packets_text ps

-- a capture of packets: its head and the block of each
abbrev pub capture_text : List Taken → List ℕ
capture_text ps = head_octets ++ packets_text ps

-- a packet as it is given
abbrev pub taken_by : Layer → packet.Packet → Taken
taken_by link p = record { link = link; entry = record { time = p.time; original = p.original; octets = p.octets.now } }

-- it may be written: at most 262,144 octets and a time below 2^62
abbrev pub IsSendable : Taken → Type 0
IsSendable p = (length p.entry.octets ≤ 262144) × (p.entry.time < 4611686018427387904) × (p.entry.original < 4294967296)
