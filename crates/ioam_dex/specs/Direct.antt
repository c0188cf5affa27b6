-- Direct export data (RFC 9326 section 3.2): Namespace-ID 16 bits, Flags 8, Extension-Flags 8,
-- IOAM-Trace-Type 24, Reserved 8, and the numbers that the extension flags have.
use Rattle.std.specs.Prelude.{ℕ, ◌+◌, ◌≡◌, ◌<◌, ◌≤◌, nat_lt, if◌then◌else◌, List, ◌∷◌, ◌++◌, length, slice_index, is_some, IfSome, Result, Ok, Err, IsOkAnd}
use Rattle.ioam_base.specs.Octets.{u16_at, u24_at}
use Rattle.ioam_base.specs.Words.{two_octets, three_octets, four_octets_if}
use Rattle.ioam_dex.specs.Numbers.{has_flow, has_seq, four_where, numbers_size, u32_where}
use Rattle.ioam_dex.specs.declared.direct.Direct.{Direct}
use Rattle.ioam_dex.specs.declared.direct.DirectFault.{DirectFault}
use Rattle.ioam_dex.specs.declared.direct.DirectFault.TheVariants.{Short}

-- each number is there exactly where the extension flags have it
pub record HasItsNumbers (direct : Direct) : Type 0 where
  pub flow : is_some direct.flow ≡ has_flow direct.ext
  pub seq : is_some direct.seq ≡ has_seq direct.ext

-- the numbers are within their fields
pub record IsDirect (direct : Direct) : Type 0 where
  pub namespace_below : direct.namespace.0 < 65536
  pub flags_below : direct.flags < 256
  pub ext_below : direct.ext < 256
  pub kind_below : direct.kind < 16777216
  pub flow_below : IfSome direct.flow (λ number. number < 4294967296)
  pub seq_below : IfSome direct.seq (λ number. number < 4294967296)

-- its octets, with a reserved octet
abbrev pub direct_octets : Direct → ℕ → List ℕ
direct_octets direct reserved = two_octets direct.namespace.0 ++ (direct.flags ∷ direct.ext ∷ (three_octets direct.kind
    ++ (reserved ∷ (four_octets_if direct.flow ++ four_octets_if direct.seq))))

-- the octets begin with this value, the reserved octet being any; what follows is left unread
pub record Begins (direct : Direct) (octets : List ℕ) : Type 0 where
  pub numbers : HasItsNumbers direct
  pub reserved : ℕ
  pub rest : List ℕ
  pub is : octets ≡ direct_octets direct reserved ++ rest

-- the octets that are wanted, as far as these tell
abbrev pub wanted : List ℕ → ℕ
wanted octets = if nat_lt (length octets) 8 then 8 else 8 + numbers_size (slice_index octets 3)

-- what is read of octets
abbrev pub Reads : List ℕ → Result Direct DirectFault → Type 0
Reads octets (Ok direct) = Begins direct octets × (wanted octets ≤ length octets)
Reads octets (Err (Short have want)) = (have ≡ length octets) × (want ≡ wanted octets) × (have < want)

-- What was written of a value is read again as it was, whatever follows it.
abbrev pub ReadsAgain : List ℕ → Result Direct DirectFault → Type 0
ReadsAgain octets result = (direct : Direct) (reserved : ℕ) (rest : List ℕ) → IsDirect direct → HasItsNumbers direct
    → octets ≡ direct_octets direct reserved ++ rest → IsOkAnd result (λ read. read ≡ direct)

-- ---- the same by places

-- the value by the places of its fields
abbrev pub direct_at : List ℕ → Direct
direct_at octets =
    let ext = slice_index octets 3 in
    record {
      namespace = record { 0 = u16_at octets 0 };
      flags = slice_index octets 2;
      ext = ext;
      kind = u24_at octets 4;
      flow = u32_where (has_flow ext) octets 8;
      seq = u32_where (has_seq ext) octets (8 + four_where (has_flow ext));
    }

-- what is read, as a function of the octets
abbrev pub read_of : List ℕ → Result Direct DirectFault
read_of octets = if nat_lt (length octets) (wanted octets) then Err (Short (length octets) (wanted octets)) else Ok (direct_at octets)
