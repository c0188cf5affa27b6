-- The packet of a record of a capture, and what another node of a domain can have made of it.
use Rattle.std.specs.Prelude.{◌≡◌, ◌⊎◌, ℕ, List, Some, slice_get}
use Rattle.ioam_audit.specs.Sent.{IsSentAs, end_of}
use Rattle.ioam_ip.specs.Chain.{IsSound}
use Rattle.ioam_ip.specs.Framing.{Holds}
use Rattle.ioam_ip.specs.Packet.{IsPacket}
use Rattle.ioam_node.specs.Admission.{reason_of}
use Rattle.ioam_node.specs.declared.reason.Reason.{Reason}
use Rattle.ioam_node.specs.declared.reason.Reason.TheVariants as reason
use Rattle.ioam_pcap.specs.Entries.{Taken}
use Rattle.ioam_run_stream.specs.Frame.{taken_framing}
use Rattle.ioam_topo.specs.Domain.{links}
use Rattle.ioam_topo.specs.declared.domain.Domain.{Domain}
use Rattle.ioam_topo.specs.declared.ids.LinkId.{LinkId}
use Rattle.ioam_topo.specs.declared.ids.NodeId.{NodeId}

-- the record holds this packet, whose chain of headers is whole
pub record HoldsPacket (t : Taken) (packet : List ℕ) : Type 0 where
  pub framed : taken_framing t ≡ Holds packet
  pub is_packet : IsPacket packet
  pub sound : IsSound packet

-- the record holds no such packet, and why: it isn't IPv6, it was cut as it was captured, it has fewer octets than it says, or
-- its chain isn't whole
abbrev pub HasReason : Taken → Reason → Type 0
HasReason t why = (reason_of (taken_framing t) ≡ Some why)
    ⊎ ((packet : List ℕ) × (taken_framing t ≡ Holds packet) × (IsSound packet → ⊥) × (why ≡ reason.Chain))

-- no reason applies to it
abbrev pub IsFit : Taken → Type 0
IsFit t = (packet : List ℕ) × HoldsPacket t packet

-- a node of a domain, and the link by which packets come to it
pub record Place : Type 0 where
  pub domain : Domain
  pub node : NodeId
  pub link : LinkId

-- the node can have sent the packet of one record on as that of the other
pub record CameFrom (place : Place) (before after : Taken) : Type 0 where
  pub sent : List ℕ
  pub came : List ℕ
  pub holds_sent : HoldsPacket before sent
  pub holds_came : HoldsPacket after came
  pub legal : IsSentAs place.domain place.node.0 (end_of (slice_get (links place.domain) place.link.0)) sent came
