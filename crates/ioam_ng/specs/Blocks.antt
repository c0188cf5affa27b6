-- The blocks of a capture, one behind the other. A block is its type, its total length, its body and
-- its total length again.
use Rattle.std.specs.Prelude.{◌≡◌, ℕ, ◌+◌, ◌-◌, ◌*◌, List, [], ◌∷◌, ◌++◌, Bool, true, false, not, ◌==◌, ◌&&◌, ◌||◌, nat_lt, nat_le, is_none, if◌then◌else◌, length, take, drop, slice_get, Option, Some, None, option_to_list, unwrap_or}
use Rattle.std.specs.Option.{option_or}
use Rattle.ioam_base.specs.Leads.{Leads}
use Rattle.ioam_ip.specs.declared.layer.Layer.{Layer}
use Rattle.ioam_ip.specs.declared.layer.Layer.TheVariants.{Raw}
use Rattle.ioam_pcap.specs.Link.{link_type}
use Rattle.ioam_pcap.specs.Entries.{Taken}
use Rattle.ioam_ng.specs.declared.face.Face.{Face}
use Rattle.ioam_pcap.specs.declared.form.Order.{Order}
use Rattle.ioam_pcap.specs.declared.capture.CapFault.{CapFault}
use Rattle.ioam_pcap.specs.declared.capture.CapFault.TheVariants as fault
use Rattle.ioam_pcap.specs.Form.{number_at}
use Rattle.ioam_ng.specs.Numbers.{short_at}
use Rattle.ioam_ng.specs.Options.{Item, HasItems, PassesBody}
use Rattle.ioam_ng.specs.Face.{face_in, face_of, is_resolved, time_of}
use Rattle.ioam_ng.specs.Checks.{Check, first}
use Rattle.ioam_ng.specs.Front.{Known, is_front, order_in, kind_in, size_in, front_fault}

-- the layer that the packets of an interface begin at, where its link type is one that is read
abbrev pub link_of : Face → Layer
link_of face = unwrap_or (link_type face.kind) Raw

-- ---- a whole block, in the order of its section

module _ (order : Order) (block : List ℕ) where
  -- an interface block: its link type and two octets more, the most octets of a packet, and options
  abbrev pub face_options : List ℕ
  face_options = take (length block - 20) (drop 16 block)

  -- the interface that the block describes; none where an option passes the body
  abbrev pub face_at : Option Face
  face_at = face_in order (short_at order block 8) face_options

  -- the same as a relation: its options are these, up to their end, and they say this
  abbrev pub SaysFace : Face → Type 0
  SaysFace face = (items : List Item) × HasItems order face_options items × (face ≡ face_of order (short_at order block 8) items)

  -- it is this interface and no other, or an option passes the body and it is none
  abbrev pub TellsFace : Option Face → Type 0
  TellsFace None = PassesBody order face_options × ((face : Face) → SaysFace face → ⊥)
  TellsFace (Some face) = SaysFace face × ((other : Face) → SaysFace other → other ≡ face)

  -- a packet block: its interface, its time in units in two halves, the captured and the original
  -- length, and the captured octets
  abbrev pub face_number : ℕ
  face_number = number_at order block 8

  -- the time of a packet in units of its interface, the upper 32 bits first
  abbrev pub units : ℕ
  units = number_at order block 12 * 4294967296 + number_at order block 16

  -- how many octets of the packet were captured
  abbrev pub captured : ℕ
  captured = number_at order block 20

  -- an option of an interface or the captured octets pass the body
  abbrev pub is_passed : ℕ → Bool
  is_passed kind = if kind == 1 then is_none face_at else if kind == 6 then nat_lt (length block) (32 + captured) else false

  -- the total length at its end
  abbrev pub trail : ℕ
  trail = number_at order block (length block - 4)

  -- what is looked for in a packet of an interface, in this order
  abbrev pub packet_checks : Face → List Check
  packet_checks face =
      record { is = is_none (link_type face.kind); fault = fault.Link face.kind }
      ∷ record { is = not (is_resolved face.resolution); fault = fault.Resolution face.resolution }
      ∷ record { is = nat_lt 262144 captured; fault = fault.RecordLong captured }
      ∷ record { is = is_none (time_of face units); fault = fault.Time units }
      ∷ []

  -- the fault of a packet block whose interface is this; of one that names none of the section, that
  abbrev pub packet_fault : Option Face → Option CapFault
  packet_fault None = Some (fault.Face face_number)
  packet_fault (Some face) = first (packet_checks face)

  -- what is looked for in a whole block, in this order
  abbrev pub block_checks : ℕ → List Check
  block_checks kind =
      record { is = is_passed kind; fault = fault.Size (length block) }
      ∷ record { is = not (trail == length block); fault = fault.Trail trail }
      ∷ record { is = (kind == 2) || (kind == 3); fault = fault.Kind kind }
      ∷ []

  -- the first fault of a whole block of this type, where there is one
  abbrev pub block_fault : ℕ → List Face → Option CapFault
  block_fault kind faces = option_or (first (block_checks kind)) (if kind == 6 then packet_fault (slice_get faces face_number) else None)

  -- the packet of a block whose interface is this: its layer, its time in nanoseconds, its length as it was sent, and the
  -- captured octets
  abbrev pub packet_of : Face → Taken
  packet_of face = record {
    link = link_of face;
    entry = record {
      time = unwrap_or (time_of face units) 0;
      original = number_at order block 24;
      octets = take captured (drop 28 block);
    };
  }

  -- the packet, where its interface is one of the section
  abbrev pub packet_from : Option Face → Option Taken
  packet_from None = None
  packet_from (Some face) = Some (packet_of face)

  -- the packet of a block of this type, and the interfaces behind it
  abbrev pub packet_at : ℕ → List Face → Option Taken
  packet_at kind faces = if kind == 6 then packet_from (slice_get faces face_number) else None

  -- the interfaces that are known behind a block of this type: none behind a section block, one more behind an interface
  -- block
  abbrev pub faces_behind : ℕ → List Face → List Face
  faces_behind kind faces = if kind == 0x0a0d0d0a then [] else if kind == 1 then faces ++ option_to_list face_at else faces

-- ---- the block at the front of octets

-- the same where the order is known
abbrev pub fault_by : Option Order → List ℕ → ℕ → List Face → Option CapFault
fault_by None block kind faces = None
fault_by (Some order) block kind faces = block_fault order block kind faces

-- the packet of a block of this type, where the order of its numbers is known; else none
abbrev pub packet_by : Option Order → List ℕ → ℕ → List Face → Option Taken
packet_by None block kind faces = None
packet_by (Some order) block kind faces = packet_at order block kind faces

-- the interfaces behind a block of this type, where the order is known; else as they were
abbrev pub faces_by : Option Order → List ℕ → ℕ → List Face → List Face
faces_by None block kind faces = faces
faces_by (Some order) block kind faces = faces_behind order block kind faces

module _ (known : Known) (octets : List ℕ) where
  -- the total length that the block at the front says
  abbrev pub size : ℕ
  size = size_in known.order octets

  -- the type of the block at the front
  abbrev pub kind : ℕ
  kind = kind_in known.order octets

  -- whether the block at the front is there with all its octets
  abbrev pub is_whole : Bool
  is_whole = is_front octets && nat_le size (length octets)

  -- its fault: of its front as soon as that is there, and of the rest once it is whole
  abbrev pub fault_in : Option CapFault
  fault_in = option_or (front_fault known.count known.order octets)
      (if is_whole then fault_by (order_in known.order octets) (take size octets) kind known.faces else None)

  -- its packet, where it is a packet block
  abbrev pub packet_in : Option Taken
  packet_in = packet_by (order_in known.order octets) (take size octets) kind known.faces

  -- what is known behind it
  abbrev pub known_behind : Known
  known_behind = record {
    count = known.count + 1;
    order = order_in known.order octets;
    faces = faces_by (order_in known.order octets) (take size octets) kind known.faces;
  }

-- where a block is due: what is known there, and the octets from there on
pub record Place : Type 0 where
  pub known : Known
  pub octets : List ℕ

-- a whole block without a fault stands there
abbrev pub CanPass : Place → Type 0
CanPass p = (fault_in p.known p.octets ≡ None) × (is_whole p.known p.octets ≡ true)

-- its packet, where it has one, and the place behind it
abbrev pub packet_there : Place → Option Taken
packet_there p = packet_in p.known p.octets

-- the place behind the block at the front: what is known there, and the octets from there on
abbrev pub behind : Place → Place
behind p = record { known = known_behind p.known p.octets; octets = drop (size p.known p.octets) p.octets }

-- exactly these blocks stand one behind the other
abbrev pub Blocks : Place → List (Option Taken) → Place → Type 0
Blocks = Leads CanPass packet_there behind

-- the packets of blocks
abbrev pub packets : List (Option Taken) → List Taken
packets [] = []
packets (None ∷ blocks) = packets blocks
packets (Some packet ∷ blocks) = packet ∷ packets blocks

-- where a capture begins nothing is known
abbrev pub nothing : Known
nothing = record { count = 0; order = None; faces = [] }

-- where a capture of these octets begins
abbrev pub front : List ℕ → Place
front octets = record { known = nothing; octets = octets }
