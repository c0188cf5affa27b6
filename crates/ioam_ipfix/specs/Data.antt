-- Data records (RFC 7011 section 3.4.3): the values of a template's fields, one behind the other.
use Rattle.std.specs.Prelude.{ℕ, ◌+◌, ◌-◌, ◌≡◌, ◌<◌, ◌≤◌, ◌⊎◌, Bool, nat_lt, if◌then◌else◌, List, [], ◌∷◌, ◌++◌, length, take, drop, slice_index, is_some}
use Rattle.ioam_base.specs.Octets.{u16_at, u24_at}
use Rattle.ioam_base.specs.Words.{two_octets, three_octets, four_octets_if}
use Rattle.ioam_dex.specs.Numbers.{has_flow, has_seq, four_where, u32_where}
use Rattle.ioam_dex.specs.Visit.{has_visit, visit_octets, twelve_where, visit_where}
use Rattle.ioam_dex.specs.Record.{Record, IsRecord}
use Rattle.ioam_ipfix.specs.Templates.{tells_flow, tells_seq, tells_visit}

-- a number where something is there, else 0
abbrev pub weight : Bool → ℕ → ℕ
weight there n = if there then n else 0

-- the template of a record
abbrev pub template_of : Record → ℕ
template_of x = 256 + weight (is_some x.flow) 4 + weight (is_some x.seq) 2 + weight (is_some x.visit) 1

-- what stands in front of the element
abbrev pub front_octets : Record → List ℕ
front_octets x = two_octets x.namespace ++ (x.flags ∷ x.ext ∷ (three_octets x.kind ++ (visit_octets x.visit ++ (four_octets_if x.flow
    ++ four_octets_if x.seq))))

-- the length of a variable field (RFC 7011 section 7): one octet below 255, or 255 and two octets
abbrev pub Spelled : ℕ → List ℕ → Type 0
Spelled size octets = ((size < 255) × (octets ≡ size ∷ [])) ⊎ ((size < 65536) × (octets ≡ 255 ∷ two_octets size))

-- these octets are a data record of this template, with these contents
pub record IsData (id : ℕ) (x : Record) (octets : List ℕ) : Type 0 where
  pub sayable : IsRecord x
  pub form : template_of x ≡ id
  pub spelling : List ℕ
  pub spelled : Spelled (length x.element) spelling
  pub is : octets ≡ front_octets x ++ (spelling ++ x.element)

-- as it is written
abbrev pub data_octets : Record → List ℕ
data_octets x = front_octets x ++ (length x.element ∷ x.element)

-- the template of a record by its octets
abbrev pub template_at : List ℕ → ℕ
template_at octets = 256 + weight (has_flow (slice_index octets 1)) 4 + weight (has_seq (slice_index octets 1)) 2
    + weight (has_visit (slice_index octets 0)) 1

-- the fields of an export record with its element from a place on, in this order
abbrev pub moved : ℕ → List ℕ → List ℕ
moved front octets = slice_index octets 4 ∷ slice_index octets 5 ∷ slice_index octets 6 ∷ slice_index octets 1
    ∷ (take (front - 7) (drop 7 octets) ++ ((length octets - front) ∷ drop front octets))

-- ---- the same by places, in octets from where a data record is due

-- the octets in front of the element's length
abbrev pub front_of : ℕ → ℕ
front_of id = 7 + twelve_where (tells_visit id) + four_where (tells_flow id) + four_where (tells_seq id)

-- the octets of a length, and the length, in octets from there on
abbrev pub prefix_at : List ℕ → ℕ
prefix_at rest = if nat_lt (slice_index rest 0) 255 then 1 else 3

-- the length that a variable field says in octets from its start on: in one octet, or behind 255 in two (RFC 7011 section 7)
abbrev pub size_at : List ℕ → ℕ
size_at rest = if nat_lt (slice_index rest 0) 255 then slice_index rest 0 else u16_at rest 1

-- the octets of the whole record
abbrev pub data_size : ℕ → List ℕ → ℕ
data_size id octets = front_of id + (prefix_at (drop (front_of id) octets) + size_at (drop (front_of id) octets))

-- the octets of the variable field at the front of these, without its length
abbrev pub element_at : List ℕ → List ℕ
element_at rest = take (size_at rest) (drop (prefix_at rest) rest)

-- what it says, with this element
abbrev pub data_with : ℕ → List ℕ → List ℕ → Record
data_with id octets element =
    let flow = 7 + twelve_where (tells_visit id) in
    record {
      namespace = u16_at octets 0;
      flags = slice_index octets 2;
      ext = slice_index octets 3;
      kind = u24_at octets 4;
      visit = visit_where (tells_visit id) octets 7;
      flow = u32_where (tells_flow id) octets flow;
      seq = u32_where (tells_seq id) octets (flow + four_where (tells_flow id));
      element = element;
    }

-- the record that the octets of a data record of this template say
abbrev pub data_at : ℕ → List ℕ → Record
data_at id octets = data_with id octets (element_at (drop (front_of id) octets))

-- it is there whole
abbrev pub HasRoom : ℕ → List ℕ → Type 0
HasRoom id octets = data_size id octets ≤ length octets

-- the parts of a data record in the order of an export record, its element from a place to another
abbrev pub back : ℕ → List ℕ → ℕ → ℕ → List ℕ
back id octets from to = (1 + weight (tells_visit id) 1) ∷ slice_index octets 3 ∷ (two_octets (front_of id + 3 + (to - from))
    ++ (slice_index octets 0 ∷ slice_index octets 1 ∷ slice_index octets 2 ∷ (take (front_of id - 4) (drop 4 octets) ++ take (to - from) (drop from octets))))
