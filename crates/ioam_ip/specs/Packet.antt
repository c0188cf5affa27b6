-- IPv6 packets (RFC 8200 section 3).
use Rattle.std.specs.Prelude.{◌≡◌, ℕ, ◌+◌, ◌/◌, ◌≤◌, List, length, slice_index}
use Rattle.ioam_base.specs.Octets.{u16_at}

-- the octets that a packet has by its header: 40, and its payload length
abbrev pub whole_length : List ℕ → ℕ
whole_length octets = 40 + u16_at octets 4

-- the octets are one IPv6 packet
pub record IsPacket (octets : List ℕ) : Type 0 where
  pub header_there : 40 ≤ length octets
  pub version : slice_index octets 0 / 16 ≡ 6
  pub whole : length octets ≡ whole_length octets
