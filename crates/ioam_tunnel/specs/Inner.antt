-- The packet that a tunnel packet carries.
use Rattle.std.specs.Prelude.{ℕ, ◌≡◌, ◌<◌, List, Option, Some, IsSomeAnd, length, drop}
use Rattle.std.specs.List.{find}
use Rattle.std.specs.declared.ops.Range.{Range}
use Rattle.ioam_ip.specs.Packet.{IsPacket}
use Rattle.ioam_ip.specs.Chain.{IsSound}
use Rattle.ioam_ip.specs.ChainOptions.{is_other}
use Rattle.ioam_ip.specs.HeadsLeft.{AreHeads}
use Rattle.ioam_ip.specs.Laid.{Part, AreParts}
use Rattle.ioam_ip.specs.declared.chain.Head.{Head}
use Rattle.ioam_tunnel.specs.Wire.{Tunnel, behind_outer, packet_with}

-- the first header on the chain that holds no options is a nested IPv6 header, stands at this place, and what
-- stands from there on is a packet
pub record InnerAt (packet : List ℕ) (place : ℕ) : Type 0 where
  pub heads : List Head
  pub are_heads : AreHeads packet heads
  pub head : Head
  pub first : find is_other heads ≡ Some head
  pub nested : head.value ≡ 41
  pub start : head.range.start ≡ place
  pub is_packet : IsPacket (drop place packet)

-- the first header on the chain that holds no options, if there is one
pub record FirstOther (packet : List ℕ) (found : Option Head) : Type 0 where
  pub heads : List Head
  pub are_heads : AreHeads packet heads
  pub first : find is_other heads ≡ found

-- the numbers of the outer header fit their fields, and its options are no paddings
pub record IsOuter (tunnel : Tunnel) (parts : List Part) : Type 0 where
  pub class_below : tunnel.class < 256
  pub label_below : tunnel.label < 1048576
  pub payload_below : length (behind_outer tunnel parts) < 65536
  pub targets : AreParts tunnel.targets
  pub others : AreParts parts

-- of an enclosed packet, whatever its nodes recorded, the packet that was put into the tunnel is found
abbrev pub GivesBack : List ℕ → Option (Range ℕ) → Type 0
GivesBack packet result = (tunnel : Tunnel) (limit : ℕ) (parts : List Part) → IsOuter tunnel parts → IsPacket tunnel.inner → IsSound tunnel.inner
    → packet ≡ packet_with tunnel limit parts
    → IsSomeAnd result (λ range. (range.end ≡ length packet) × (drop range.start packet ≡ tunnel.inner))
