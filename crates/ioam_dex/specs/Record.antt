-- Export records: version 8 bits, 1 or 2, Extension-Flags 8, length of the whole record 16, Namespace-ID
-- 16, Flags 8, IOAM-Trace-Type 24, in version 2 the time at the node 64 and the interface by which the
-- packet came 32, the Flow ID and the Sequence Number where the extension flags have them, and the element.
use Rattle.std.specs.Prelude.{ℕ, ◌+◌, ◌-◌, ◌≡◌, ◌<◌, ◌≤◌, List, ◌∷◌, ◌++◌, length, take, drop, slice_index, Option, is_some, IfSome}
use Rattle.ioam_base.specs.Octets.{u16_at, u24_at}
use Rattle.ioam_base.specs.Words.{two_octets, three_octets, four_octets_if}
use Rattle.ioam_data.specs.Elements.{IsFilled}
use Rattle.ioam_data.specs.Written.{most_exported}
use Rattle.ioam_dex.specs.Numbers.{has_flow, has_seq, four_where, numbers_size, u32_where}
use Rattle.ioam_dex.specs.declared.export.Export.{Export}
use Rattle.ioam_dex.specs.Visit.{IsVersion, has_visit, version_of, visit_octets, twelve_where, visit_where, IsVisitBelow}

-- the most octets of one: 30 before an element of 244
abbrev pub most_record : ℕ
most_record = 274

-- the most records of a file of them
abbrev pub most_records : ℕ
most_records = 67108864

-- what a record says
pub record Record : Type 0 where
  pub namespace : ℕ
  pub flags : ℕ
  pub ext : ℕ
  pub kind : ℕ
  pub visit : Option (ℕ × ℕ)
  pub flow : Option ℕ
  pub seq : Option ℕ
  pub element : List ℕ

-- a record without where its element lies in memory
abbrev pub record_of : Export → Record
record_of export = record {
  namespace = export.namespace.0;
  flags = export.flags;
  ext = export.ext;
  kind = export.kind;
  visit = export.visit;
  flow = export.flow;
  seq = export.seq;
  element = export.element.now;
}

-- the parts of a record: each number is there exactly where the extension flags have it, and the element
-- is one of the type with at most 61 words of 4 octets
pub record HasItsParts (x : Record) : Type 0 where
  pub flow : is_some x.flow ≡ has_flow x.ext
  pub seq : is_some x.seq ≡ has_seq x.ext
  pub filled : IsFilled x.kind x.element
  pub short : length x.element ≤ most_exported

-- its numbers are within their fields
pub record IsNumbered (x : Record) : Type 0 where
  pub namespace_below : x.namespace < 65536
  pub flags_below : x.flags < 256
  pub ext_below : x.ext < 256
  pub kind_below : x.kind < 16777216
  pub visit_below : IsVisitBelow x.visit
  pub flow_below : IfSome x.flow (λ number. number < 4294967296)
  pub seq_below : IfSome x.seq (λ number. number < 4294967296)

-- the octets in front of the element
abbrev pub front_size : ℕ → ℕ → ℕ
front_size version ext = 10 + twelve_where (has_visit version) + numbers_size ext

-- those of the whole record
abbrev pub record_size : Record → ℕ
record_size x = front_size (version_of x.visit) x.ext + length x.element

-- all octets of a record: its version and head, the visit where it tells one, the Flow ID and the Sequence Number where they
-- are there, and the element
abbrev pub record_octets : Record → List ℕ
record_octets x = version_of x.visit ∷ x.ext ∷ (two_octets (record_size x) ++ (two_octets x.namespace ++ (x.flags
    ∷ (three_octets x.kind ++ (visit_octets x.visit ++ (four_octets_if x.flow ++ (four_octets_if x.seq ++ x.element)))))))

-- what may be said by a record
pub record IsRecord (x : Record) : Type 0 where
  pub parts : HasItsParts x
  pub numbers : IsNumbered x

-- these octets are one record with these contents
pub record Rec (octets : List ℕ) (x : Record) : Type 0 where
  pub sayable : IsRecord x
  pub is : octets ≡ record_octets x

-- ---- the same by places, in octets from where a record is due

-- its length, and the octets in front of its element
abbrev pub length_of : List ℕ → ℕ
length_of octets = u16_at octets 2

-- how many octets stand in front of the element of the record that is due, by its version and its extension flags
abbrev pub front_of : List ℕ → ℕ
front_of octets = front_size (slice_index octets 0) (slice_index octets 1)

-- the octets of its element
abbrev pub element_of : List ℕ → List ℕ
element_of octets = take (length_of octets - front_of octets) (drop (front_of octets) octets)

-- its type
abbrev pub kind_of : List ℕ → ℕ
kind_of octets = u24_at octets 7

-- what it says
abbrev pub record_at : List ℕ → Record
record_at octets =
    let second = has_visit (slice_index octets 0) in
    let ext = slice_index octets 1 in
    let numbers = 10 + twelve_where second in
    record {
      namespace = u16_at octets 4;
      flags = slice_index octets 6;
      ext = ext;
      kind = kind_of octets;
      visit = visit_where second octets 10;
      flow = u32_where (has_flow ext) octets numbers;
      seq = u32_where (has_seq ext) octets (numbers + four_where (has_flow ext));
      element = element_of octets;
    }

-- its first four octets are there, with one of the versions and a length that has room for its front and at
-- most 61 words behind it
pub record IsSized (octets : List ℕ) : Type 0 where
  pub begins : 4 ≤ length octets
  pub version : IsVersion (slice_index octets 0)
  pub least : front_of octets ≤ length_of octets
  pub most : length_of octets ≤ front_of octets + most_exported
