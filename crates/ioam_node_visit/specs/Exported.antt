-- What a node exports of a packet, by the octets of the packet's direct export options (RFC 9326 section 3.2).
use Rattle.std.specs.Prelude.{◌≡◌, ◌≤◌, ◌+◌, ◌-◌, ◌*◌, ◌/◌, ◌%◌, ◌⊎◌, ◌==◌, ℕ, true, if◌then◌else◌, List, [], ◌∷◌, ◌++◌, length, drop, slice_index, Option, Some, None}
use Rattle.ioam_base.specs.Octets.{u16_at, u24_at, u32_at}
use Rattle.ioam_clock.specs.declared.sample.Sample.{Sample}
use Rattle.ioam_data.specs.Kind.{words}
use Rattle.ioam_data.specs.Written.{element_of}
use Rattle.ioam_dex.specs.Reads.{records_octets}
use Rattle.ioam_dex.specs.Record.{Record}
use Rattle.ioam_ip.specs.Hop.{hop_options}
use Rattle.ioam_ip.specs.Options.{Item}
use Rattle.ioam_node.specs.declared.place.Place.{Place}
use Rattle.ioam_topo.specs.declared.domain.Domain.{Domain}
use Rattle.ioam_node_visit.specs.Seeing.{view_of}
use Rattle.ioam_node_visit.specs.Step.{knows}

-- Bits 0 and 1 of Extension-Flags, 0x80 and 0x40, as 0 or 1: the Flow ID is there, the Sequence Number is there.
abbrev pub flow_bit : ℕ → ℕ
flow_bit ext = ext / 128 % 2

-- bit 1 of Extension-Flags: whether the Sequence Number is there
abbrev pub seq_bit : ℕ → ℕ
seq_bit ext = ext / 64 % 2

-- an IOAM-Trace-Type with its bit 7, which counts for 65536, clear: the checksum complement, which no node exports
abbrev pub without_check : ℕ → ℕ
without_check kind = kind - 65536 * (kind / 65536 % 2)

-- a number of 32 bits at a place, where its bit is 1
abbrev pub number_if : ℕ → List ℕ → ℕ → Option ℕ
number_if bit octets at = if bit == 1 then Some (u32_at octets at) else None

-- the data of an option behind its reserved octet and its IOAM-Option-Type
abbrev pub data_of : Item → List ℕ
data_of item = drop 2 item.body

-- so many octets direct export data have: 8, and 4 for each of the two numbers that is there
abbrev pub size_of : List ℕ → ℕ
size_of octets = let ext = slice_index octets 3 in 8 + 4 * flow_bit ext + 4 * seq_bit ext

module _ (domain : Domain) (readings : List (List Sample)) (place : Place) (time hops : ℕ) where
  -- An option that asks the node for a record: an IOAM option of type 0x11 or 0x31 with the IOAM-Option-Type 4, whose
  -- data are whole, of a namespace that the node knows.
  pub record Asks (item : Item) : Type 0 where
    pub type : (item.kind ≡ 0x11) ⊎ (item.kind ≡ 0x31)
    pub direct : slice_index item.body 1 ≡ 4
    pub whole : size_of (data_of item) ≤ length (data_of item)
    pub known : knows domain place.node.0 (u16_at (data_of item) 0) ≡ true

  -- The record that it gets, by the places of the fields in the option's data: Namespace-ID at 0, Flags at 2,
  -- Extension-Flags at 3, IOAM-Trace-Type at 4, the Flow ID at 8, the Sequence Number behind that or in its place. The
  -- rest is the node's own: the time of the visit, the interface by which the packet came, and the element of this type
  -- that the node would add to a trace of the namespace.
  pub record IsExport (octets : List ℕ) (x : Record) : Type 0 where
    pub namespace : x.namespace ≡ u16_at octets 0
    pub flags : x.flags ≡ slice_index octets 2
    pub ext : x.ext ≡ slice_index octets 3
    pub kind : x.kind ≡ without_check (u24_at octets 4)
    pub flow : x.flow ≡ number_if (flow_bit (slice_index octets 3)) octets 8
    pub seq : x.seq ≡ number_if (seq_bit (slice_index octets 3)) octets (8 + 4 * flow_bit (slice_index octets 3))
    pub visit : x.visit ≡ Some (time, place.inward)
    pub element : x.element ≡ element_of x.kind (words x.kind) (view_of domain readings place time hops x.namespace)

  -- the records of these options: one of each that asks for it, in the order of the options, and no other
  abbrev pub AreExports : List Item → List Record → Type 0
  AreExports [] xs = xs ≡ []
  AreExports (item ∷ items) xs = ((Asks item → ⊥) × AreExports items xs)
      ⊎ (Asks item × ((x : Record) × (rest : List Record) × (xs ≡ x ∷ rest) × IsExport (data_of item) x × AreExports items rest))

  -- What was exported of a packet behind what was there: the octets of the records of the options of its Hop-by-Hop
  -- header. No other records are those of these options.
  pub record HasExported (packet old new : List ℕ) : Type 0 where
    pub records : List Record
    pub are : AreExports (hop_options packet) records
    pub only : (others : List Record) → AreExports (hop_options packet) others → others ≡ records
    pub is : new ≡ old ++ records_octets records
