-- How a packet leaves the domain where its tunnel ends (RFC 2473 section 3).
use Rattle.std.specs.Prelude.{◌≡◌, ◌<◌, ⊤, ℕ, List, length, drop, Ok, Err}
use Rattle.std.specs.declared.ops.Range.{Range}
use Rattle.ioam_ip.specs.Header.{HasFields}
use Rattle.ioam_ip.specs.Packet.{IsPacket}
use Rattle.ioam_ip.specs.declared.packet.Header.{Header}
use Rattle.ioam_node.specs.Choice.{exit_choice}
use Rattle.ioam_topo.specs.declared.domain.Domain.{Domain}
use Rattle.ioam_tunnel.specs.Inner.{InnerAt}
use Rattle.ioam_node_visit.specs.declared.answer.Leave.{Leave}
use Rattle.ioam_node_visit.specs.declared.answer.Leave.TheVariants.{Out, Drop}

-- the octets are a packet that carries one
pub record HasInner (packet : List ℕ) : Type 0 where
  pub is_packet : IsPacket packet
  pub place : ℕ
  pub carries : InnerAt packet place

-- what it carries stands there, up to its end
pub record IsInner (packet : List ℕ) (range : Range ℕ) : Type 0 where
  pub carries : InnerAt packet range.start
  pub ends : range.end ≡ length packet

-- what is answered at a node of what a packet carries, which has this header: by the node's ports alone it leaves
abbrev pub LeavesAs : Domain → ℕ → List ℕ → Header → Leave → Type 0
LeavesAs domain node packet header (Out port inner) = (exit_choice domain node header.hops header.target ≡ Ok port)
    × HasFields (drop inner.start packet) header × IsInner packet inner
LeavesAs domain node packet header (Drop reason) = (exit_choice domain node header.hops header.target ≡ Err reason)
    × ((place : ℕ) × InnerAt packet place × HasFields (drop place packet) header)

-- what is answered of a packet with some header, at the node where its tunnel ends
pub record LeavesSo (domain : Domain) (node : ℕ) (packet : List ℕ) (answer : Leave) : Type 0 where
  pub header : Header
  pub leaves : LeavesAs domain node packet header answer

-- the port is one of so many
abbrev pub LeavesBy : ℕ → Leave → Type 0
LeavesBy ports (Out port inner) = port.0 < ports
LeavesBy ports (Drop reason) = ⊤
