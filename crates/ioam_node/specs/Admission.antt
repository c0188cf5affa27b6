-- What becomes of a frame at the port where it arrives: the first reason why it is dropped, or its
-- packet, which is enclosed in the flow that it matches, or sent on as it is.
use Rattle.std.specs.Prelude.{◌≡◌, ◌<◌, ◌≤◌, ⊤, ℕ, false, IsTrue, List, [], ◌∷◌, length, Option, Some, None}
use Rattle.ioam_ip.specs.Chain.{IsSound}
use Rattle.ioam_ip.specs.ChainOptions.{CarriesIoam, LimitOf}
use Rattle.ioam_ip.specs.Framing.{Framing, Holds, NoIpv6, CutShort, TooShort}
use Rattle.ioam_ip.specs.Header.{HasFields}
use Rattle.ioam_ip.specs.Packet.{IsPacket}
use Rattle.ioam_ip.specs.declared.packet.Header.{Header}
use Rattle.ioam_topo.specs.declared.domain.Domain.{Domain}
use Rattle.ioam_topo.specs.declared.ids.FlowId.{FlowId}
use Rattle.ioam_topo.specs.Domain.{flows, is_local}
use Rattle.ioam_topo.specs.Finding.{flow_at}
use Rattle.ioam_node.specs.Order.{Stop, stop, IsFirst}
use Rattle.ioam_node.specs.declared.answer.Admit.{Admit}
use Rattle.ioam_node.specs.declared.answer.Admit.TheVariants as admit
use Rattle.ioam_node.specs.declared.reason.Reason.{Reason}
use Rattle.ioam_node.specs.declared.reason.Reason.TheVariants as reason

-- the flow in which a node encloses a packet with this header, if there is one
abbrev pub flow_for : Domain → ℕ → Header → Option FlowId
flow_for domain node header = flow_at (flows domain) node header.source header.target

-- the packet's chain is whole, no header on it has an IOAM option, and this is its header
pub record IsFree (packet : List ℕ) (header : Header) : Type 0 where
  pub sound : IsSound packet
  pub free : CarriesIoam packet → ⊥
  pub fields : HasFields packet header

-- and besides it isn't for a node of the domain, and its hop limit can be lowered
pub record CanEnter (domain : Domain) (packet : List ℕ) (header : Header) : Type 0 where
  pub is_free : IsFree packet header
  pub target : is_local domain header.target ≡ false
  pub hops : 2 ≤ header.hops

-- why a packet that arrives may be dropped, in the order in which a node looks for it
abbrev pub refusals : Domain → List ℕ → List Stop
refusals domain packet =
    stop reason.Chain (IsSound packet → ⊥)
    ∷ stop reason.IoamIn (CarriesIoam packet)
    ∷ stop reason.Local ((header : Header) × HasFields packet header × IsTrue (is_local domain header.target))
    ∷ stop reason.HopLimit ((header : Header) × HasFields packet header × (header.hops ≤ 1))
    ∷ []

-- what becomes of a packet at a port of this node
abbrev pub AdmitsPacket : Domain → ℕ → List ℕ → Admit → Type 0
AdmitsPacket domain node packet (admit.Drop reason) = IsFirst (refusals domain packet) reason
AdmitsPacket domain node packet (admit.Plain kept) = (kept.now ≡ packet)
    × ((header : Header) × CanEnter domain packet header × (flow_for domain node header ≡ None))
AdmitsPacket domain node packet (admit.Enclose flow kept limit) = (kept.now ≡ packet) × LimitOf packet limit
    × ((header : Header) × CanEnter domain packet header × (flow_for domain node header ≡ Some flow))

-- why a frame is dropped that holds no packet
abbrev pub reason_of : Framing → Option Reason
reason_of (Holds packet) = None
reason_of NoIpv6 = Some reason.NotIpv6
reason_of CutShort = Some reason.Cut
reason_of TooShort = Some reason.Length

-- what is answered is this reason
abbrev pub IsDrop : Reason → Admit → Type 0
IsDrop reason (admit.Drop other) = other ≡ reason
IsDrop reason (admit.Plain kept) = ⊥
IsDrop reason (admit.Enclose flow kept limit) = ⊥

-- what becomes of a frame at a port of this node, by what it holds
abbrev pub Admits : Domain → ℕ → Framing → Admit → Type 0
Admits domain node (Holds packet) answer = AdmitsPacket domain node packet answer
Admits domain node NoIpv6 answer = IsDrop reason.NotIpv6 answer
Admits domain node CutShort answer = IsDrop reason.Cut answer
Admits domain node TooShort answer = IsDrop reason.Length answer

-- what is taken in is a packet, and every header on its chain is whole
abbrev pub HoldsPacket : Admit → Type 0
HoldsPacket (admit.Drop reason) = ⊤
HoldsPacket (admit.Plain kept) = IsPacket kept.now × IsSound kept.now
HoldsPacket (admit.Enclose flow kept limit) = IsPacket kept.now × IsSound kept.now

-- the flow in which it is to be enclosed is one of the domain
abbrev pub KnowsFlow : Domain → Admit → Type 0
KnowsFlow domain (admit.Drop reason) = ⊤
KnowsFlow domain (admit.Plain kept) = ⊤
KnowsFlow domain (admit.Enclose flow kept limit) = flow.0 < length (flows domain)

-- the packet that is taken in; none where the frame is dropped
abbrev pub packet_of : Admit → List ℕ
packet_of (admit.Plain kept) = kept.now
packet_of (admit.Enclose flow kept limit) = kept.now
packet_of (admit.Drop reason) = []
