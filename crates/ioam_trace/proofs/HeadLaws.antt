-- Laws of the eight octets of a trace header.
use Rattle.std.proofs.Common.{◌≡◌, ℕ, ◌+◌, ◌*◌, ◌/◌, ◌<◌, List, ◌++◌, length, get_or, arith, sym}
use Rattle.ioam_base.specs.Octets.{u16_at}
use Rattle.ioam_trace.specs.Data.{header, head_octets}
use Rattle.ioam_trace.specs.Head.{node_len_of, flags_of, overflow_of, remaining_of, kind_of}
use Rattle.ioam_trace.specs.Read.{IsHead}
use Rattle.ioam_trace.specs.declared.head.TraceHead.{TraceHead}

-- what is read of a header that was written
module _ (namespace node_len flags remaining kind reserved : ℕ) (rest : List ℕ) where
  abbrev octets : List ℕ
  octets = header namespace node_len flags remaining kind reserved ++ rest

  pub lengths-header : node_len < 32 → flags < 16 → remaining < 128 → u16_at octets 2 ≡ node_len * 2048 + flags * 128 + remaining
  lengths-header n f r = omega arith

  pub node_len_of-header : node_len < 32 → flags < 16 → remaining < 128 → node_len_of octets ≡ node_len
  node_len_of-header n f r = omega (arith, lengths-header n f r)

  pub flags_of-header : node_len < 32 → flags < 16 → remaining < 128 → flags_of octets ≡ flags
  flags_of-header n f r = omega (arith, lengths-header n f r)

  pub overflow_of-header : node_len < 32 → flags < 16 → remaining < 128 → overflow_of octets ≡ flags / 8
  overflow_of-header n f r = omega (arith, lengths-header n f r)

  pub remaining_of-header : node_len < 32 → flags < 16 → remaining < 128 → remaining_of octets ≡ remaining
  remaining_of-header n f r = omega (arith, lengths-header n f r)

  pub kind_of-header : kind < 16777216 → reserved < 256 → kind_of octets ≡ kind
  kind_of-header k v = omega arith

  pub namespace-header : namespace < 65536 → u16_at octets 0 ≡ namespace
  namespace-header n = omega arith

  pub reserved-header : kind < 16777216 → reserved < 256 → get_or octets 7 0 ≡ reserved
  reserved-header k v = omega arith

  pub length-header : length octets ≡ 8 + length rest
  length-header = omega arith

-- a header that was written is read again
pub IsHead-octets : (head : TraceHead) (rest : List ℕ) → head.namespace.0 < 65536 → head.kind < 16777216 → head.reserved < 256
    → IsHead (head_octets head ++ rest) head
IsHead-octets head rest namespace_below kind_below reserved_below = record {
  namespace = sym (namespace-header head.namespace.0 head.node_len head.flags head.remaining head.kind head.reserved rest namespace_below);
  node_len = sym (node_len_of-header head.namespace.0 head.node_len head.flags head.remaining head.kind head.reserved rest head.node_len_below head.flags_below head.remaining_below);
  flags = sym (flags_of-header head.namespace.0 head.node_len head.flags head.remaining head.kind head.reserved rest head.node_len_below head.flags_below head.remaining_below);
  remaining = sym (remaining_of-header head.namespace.0 head.node_len head.flags head.remaining head.kind head.reserved rest head.node_len_below head.flags_below head.remaining_below);
  kind = sym (kind_of-header head.namespace.0 head.node_len head.flags head.remaining head.kind head.reserved rest kind_below reserved_below);
  reserved = sym (reserved-header head.namespace.0 head.node_len head.flags head.remaining head.kind head.reserved rest kind_below reserved_below);
}
