-- What an IPv6 header says (RFC 8200 section 3), and the 40 octets that say it.
use Rattle.std.specs.Prelude.{◌≡◌, ℕ, ◌+◌, ◌*◌, ◌/◌, ◌%◌, ◌^◌, ◌<◌, List, [], ◌∷◌, ◌++◌, slice_index, slice_range}
use Rattle.std.specs.Int.{w16, w32, w128, to_be_bytes, from_be_bytes}
use Rattle.ioam_base.specs.Octets.{u16_at, u32_at}
use Rattle.ioam_ip.specs.declared.packet.Header.{Header}

-- the first 32 bits: the version, which is 6, the traffic class of 8 bits and the flow label of 20
abbrev pub first_word : Header → ℕ
first_word header = (6 * 256 + header.class) * 1048576 + header.label

-- the octets of a header
abbrev pub header_octets : Header → List ℕ
header_octets header = to_be_bytes w32 (first_word header)
    ++ to_be_bytes w16 header.payload
    ++ (header.next ∷ header.hops ∷ [])
    ++ to_be_bytes w128 header.source
    ++ to_be_bytes w128 header.target

-- the traffic class that octets begin with: the 8 bits behind the version
abbrev pub class_of : List ℕ → ℕ
class_of octets = u32_at octets 0 / 1048576 % 256

-- the fields that the first 40 octets have
pub record HasFields (octets : List ℕ) (header : Header) : Type 0 where
  pub class : header.class ≡ class_of octets
  pub label : header.label ≡ u32_at octets 0 % 1048576
  pub payload : header.payload ≡ u16_at octets 4
  pub next : header.next ≡ slice_index octets 6
  pub hops : header.hops ≡ slice_index octets 7
  pub source : header.source ≡ from_be_bytes w128 (slice_range octets 8 24)
  pub target : header.target ≡ from_be_bytes w128 (slice_range octets 24 40)

-- each field fits its bits
pub record FieldsFit (header : Header) : Type 0 where
  pub class : header.class < 256
  pub label : header.label < 1048576
  pub payload : header.payload < 65536
  pub source : header.source < 2 ^ 128
  pub target : header.target < 2 ^ 128
