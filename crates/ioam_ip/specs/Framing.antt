-- The packet that a captured frame holds.
use Rattle.std.specs.Prelude.{⊤, ℕ, ◌/◌, List, Option, Some, None, Bool, true, ◌==◌, ◌||◌, ◌&&◌, not, nat_lt, nat_le, if◌then◌else◌, length, slice_index, take, drop}
use Rattle.ioam_base.specs.Octets.{u16_at}
use Rattle.ioam_ip.specs.Layer.{link_header}
use Rattle.ioam_ip.specs.Packet.{whole_length}
use Rattle.ioam_ip.specs.declared.layer.Layer.{Layer}

-- what a frame gives: a packet, or the first reason why it gives none
pub data Framing : Type 0 where
  Holds : (packet : List ℕ) → Framing
  NoIpv6 : Framing
  CutShort : Framing
  TooShort : Framing

-- what these octets begin with. What follows the packet is padding
abbrev pub framed : Bool → List ℕ → Framing
framed cut octets =
    if not (slice_index octets 0 / 16 == 6) then NoIpv6
    else (if cut then CutShort
    else (if nat_lt (length octets) 40 || nat_lt (length octets) (whole_length octets) then TooShort
    else Holds (take (whole_length octets) octets)))

-- the 16 bits at this offset, if one is given, are 0x86DD, the Ethertype of IPv6 (RFC 2464 section 3)
abbrev pub is_ipv6_at : List ℕ → Option ℕ → Bool
is_ipv6_at frame (Some at) = u16_at frame at == 0x86DD
is_ipv6_at frame None = true

-- the frame has the whole link header, and its Ethertype, if it has one, is that of IPv6
abbrev pub announces_ipv6 : Layer → List ℕ → Bool
announces_ipv6 layer frame = nat_le (link_header layer).0 (length frame) && is_ipv6_at frame (link_header layer).1

-- What a captured frame gives. The first of these reasons counts: no link header with the
-- Ethertype of IPv6 where there should be one, or no version 6; fewer octets captured than the frame
-- had; fewer octets than the header, or than it says.
abbrev pub framing_of : Layer → Bool → List ℕ → Framing
framing_of layer cut frame = if announces_ipv6 layer frame then framed cut (drop (link_header layer).0 frame) else NoIpv6

-- the fact holds of the packet, where there is one
abbrev pub IfHolds : Framing → (List ℕ → Type 0) → Type 0
IfHolds (Holds packet) P = P packet
IfHolds NoIpv6 P = ⊤
IfHolds CutShort P = ⊤
IfHolds TooShort P = ⊤
