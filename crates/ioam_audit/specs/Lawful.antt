-- The same by the fields of the element that was added (RFC 9197 section 4.4.2): a table, field by field. A field that isn't
-- named here may have any value.
use Rattle.std.specs.Prelude.{◌≡◌, ◌≤◌, ◌⊎◌, ℕ, Some, IfSome, All}
use Rattle.ioam_data.specs.Fields.{Held}
use Rattle.ioam_data.specs.Written.{narrow_face, narrow_id}

-- the interface by which the packet came reads so in bit 1, of 16 bits, and so in bit 9, of 32
pub record ComesBy (narrow wide : ℕ) (held : Held) : Type 0 where
  pub faces : IfSome held.faces (λ pair. pair.0 ≡ narrow)
  pub wide_faces : IfSome held.wide_faces (λ pair. pair.0 ≡ wide)

-- Bits 0 and 8: the hop limit and the node's id, in 24 bits all ones where it has more. Bits 1 and 9: the interface by which
-- the packet came, in both as it is or in both all ones, as not known; the other interface is one in both. Bit 4: a delay of
-- 31 bits, the bit above them alone where it is longer, or all ones. The words behind the fields up to NodeLen: all ones.
pub record IsLawful (hops id inward : ℕ) (held : Held) : Type 0 where
  pub hop_node : IfSome held.hop_node (λ pair. (pair.0 ≡ hops) × (pair.1 ≡ narrow_id id))
  pub wide_hop_node : IfSome held.wide_hop_node (λ pair. (pair.0 ≡ hops) × (pair.1 ≡ id))
  pub came : ComesBy (narrow_face (Some inward)) inward held ⊎ ComesBy 65535 4294967295 held
  pub goes : IfSome held.faces (λ pair. IfSome held.wide_faces (λ wide. pair.1 ≡ narrow_face (Some wide.1)))
  pub delay : IfSome held.delay (λ delay. (delay ≤ 2147483648) ⊎ (delay ≡ 4294967295))
  pub filler : All (λ octet. octet ≡ 255) held.filler
