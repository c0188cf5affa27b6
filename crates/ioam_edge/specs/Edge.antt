-- Edge-to-edge data (RFC 9197 section 4.6): Namespace-ID 16 bits, IOAM-E2E-Type 16, and the fields that
-- the type asks for.
use Rattle.std.specs.Prelude.{ℕ, ◌+◌, ◌-◌, ◌/◌, ◌%◌, ◌^◌, ◌≡◌, ◌<◌, ◌≤◌, Bool, nat_lt, ◌==◌, if◌then◌else◌, List, ◌++◌, length, is_some, IfSome, Result, Ok, Err, IsOkAnd}
use Rattle.ioam_base.specs.Octets.{u16_at}
use Rattle.ioam_base.specs.Words.{two_octets, four_octets_if, eight_octets_if}
use Rattle.ioam_edge.specs.declared.edge.Edge.{Edge}
use Rattle.ioam_edge.specs.declared.edge.EdgeFault.{EdgeFault}
use Rattle.ioam_edge.specs.declared.edge.EdgeFault.TheVariants.{Short}

-- whether a type asks for the field of a bit; of its 16 bits bit 0 is the most significant
unfoldable pub asks : ℕ → ℕ → Bool
asks kind bit = kind / 2 ^ (15 - bit) % 2 == 1

-- each field is there exactly where the type asks for it
pub record HasItsFields (edge : Edge) : Type 0 where
  pub seq64 : is_some edge.seq64 ≡ asks edge.kind 0
  pub seq32 : is_some edge.seq32 ≡ asks edge.kind 1
  pub seconds : is_some edge.seconds ≡ asks edge.kind 2
  pub fraction : is_some edge.fraction ≡ asks edge.kind 3

-- the numbers are within their fields
pub record IsEdge (edge : Edge) : Type 0 where
  pub namespace_below : edge.namespace.0 < 65536
  pub kind_below : edge.kind < 65536
  pub seq64_below : IfSome edge.seq64 (λ number. number < 18446744073709551616)
  pub seq32_below : IfSome edge.seq32 (λ number. number < 4294967296)
  pub seconds_below : IfSome edge.seconds (λ number. number < 4294967296)
  pub fraction_below : IfSome edge.fraction (λ number. number < 4294967296)

-- its octets, those for bits that are not known left out
abbrev pub edge_octets : Edge → List ℕ
edge_octets edge = two_octets edge.namespace.0 ++ (two_octets edge.kind ++ (eight_octets_if edge.seq64
    ++ (four_octets_if edge.seq32 ++ (four_octets_if edge.seconds ++ four_octets_if edge.fraction))))

-- the octets begin with this value; what follows is left unread
pub record Begins (edge : Edge) (octets : List ℕ) : Type 0 where
  pub fields : HasItsFields edge
  pub rest : List ℕ
  pub is : octets ≡ edge_octets edge ++ rest

-- so many octets where a type asks for a field
abbrev pub where_asked : ℕ → ℕ → ℕ → ℕ
where_asked kind bit amount = if asks kind bit then amount else 0

-- the octets of the fields of the known bits
abbrev pub fields_size : ℕ → ℕ
fields_size kind = where_asked kind 0 8 + where_asked kind 1 4 + where_asked kind 2 4 + where_asked kind 3 4

-- the octets that are wanted, as far as these tell
abbrev pub wanted : List ℕ → ℕ
wanted octets = if nat_lt (length octets) 4 then 4 else 4 + fields_size (u16_at octets 2)

-- what is read of octets
abbrev pub Reads : List ℕ → Result Edge EdgeFault → Type 0
Reads octets (Ok edge) = Begins edge octets × (wanted octets ≤ length octets)
Reads octets (Err (Short have want)) = (have ≡ length octets) × (want ≡ wanted octets) × (have < want)

-- What was written of a value is read again as it was, whatever follows it.
abbrev pub ReadsAgain : List ℕ → Result Edge EdgeFault → Type 0
ReadsAgain octets result = (edge : Edge) (rest : List ℕ) → IsEdge edge → HasItsFields edge
    → octets ≡ edge_octets edge ++ rest → IsOkAnd result (λ read. read ≡ edge)
