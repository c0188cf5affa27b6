-- What becomes of a frame at a port is one thing only.
use Rattle.std.proofs.Common.{◌≡◌, ℕ, ◌≤◌, List, Option, Some, None, sym, ◌∙◌, ap, arith}
use Rattle.ioam_ip.specs.Framing.{Framing, Holds, NoIpv6, CutShort, TooShort}
use Rattle.ioam_ip.specs.Header.{HasFields}
use Rattle.ioam_ip.specs.declared.packet.Header.{Header}
use Rattle.ioam_ip.proofs.ChainOptionsLaws.{LimitOf-unique}
use Rattle.ioam_topo.specs.declared.domain.Domain.{Domain}
use Rattle.ioam_topo.specs.declared.ids.FlowId.{FlowId}
use Rattle.ioam_topo.specs.Domain.{flows}
use Rattle.ioam_topo.specs.Finding.{flow_at}
use Rattle.ioam_node.specs.Admission.{refusals, CanEnter, AdmitsPacket, Admits, IsDrop, flow_for}
use Rattle.ioam_node.specs.Order.{NoneHolds}
use Rattle.ioam_node.specs.declared.answer.Admit.{Admit}
use Rattle.ioam_node.specs.declared.answer.Admit.TheVariants as admit
use Rattle.ioam_node.specs.declared.reason.Reason.{Reason}
use Rattle.ioam_node.specs.declared.reason.Reason.TheVariants as reason
use Rattle.ioam_node.proofs.AdmissionLaws.{not_local}
use Rattle.ioam_node.proofs.OrderLaws.{first-holds, first-unique}

-- two answers are one, up to the place where their octets stand
abbrev pub IsSame : Admit → Admit → Type 0
IsSame (admit.Drop reason) (admit.Drop cause) = reason ≡ cause
IsSame (admit.Plain packet) (admit.Plain other) = packet.now ≡ other.now
IsSame (admit.Enclose flow packet limit) (admit.Enclose way other bound) = (flow ≡ way) × (packet.now ≡ other.now) × (limit ≡ bound)
IsSame (admit.Drop reason) (admit.Plain other) = ⊥
IsSame (admit.Drop reason) (admit.Enclose way other bound) = ⊥
IsSame (admit.Plain packet) (admit.Drop cause) = ⊥
IsSame (admit.Plain packet) (admit.Enclose way other bound) = ⊥
IsSame (admit.Enclose flow packet limit) (admit.Drop cause) = ⊥
IsSame (admit.Enclose flow packet limit) (admit.Plain other) = ⊥

module _ (domain : Domain) (packet : List ℕ) where
  -- no stop holds of a packet that is taken in
  none_holds : (header : Header) → CanEnter domain packet header → NoneHolds (refusals domain packet)
  none_holds header can =
      let can_lower : (low : (h : Header) × HasFields packet h × (h.hops ≤ 1)) → ⊥ = λ low.
      let limits : header.hops ≡ low.0.hops = can.is_free.fields.hops ∙ sym low.1.hops in omega (arith, limits, low.2, can.hops) in
      ((λ bad. bad can.is_free.sound), (can.is_free.free, (not_local domain packet header can.is_free can.target, (can_lower, tt))))

  -- its header names one flow, or none
  one_flow : (node : ℕ) (a b : Header) (flow other : Option FlowId) → CanEnter domain packet a → CanEnter domain packet b
      → flow_for domain node a ≡ flow → flow_for domain node b ≡ other → flow ≡ other
  one_flow node a b flow other first second is also =
      let sources : a.source ≡ b.source = first.is_free.fields.source ∙ sym second.is_free.fields.source in
      let targets : a.target ≡ b.target = first.is_free.fields.target ∙ sym second.is_free.fields.target in
      sym is ∙ ap (λ source. flow_at (flows domain) node source a.target) sources
      ∙ ap (λ target. flow_at (flows domain) node b.source target) targets ∙ also

  one_of_packet : (node : ℕ) (a b : Admit) → AdmitsPacket domain node packet a → AdmitsPacket domain node packet b → IsSame a b
  one_of_packet node (admit.Drop r) (admit.Drop s) first second = first-unique (refusals domain packet) r s first second
  one_of_packet node (admit.Plain kept) (admit.Plain other) first second = first.0 ∙ sym second.0
  one_of_packet node (admit.Enclose flow kept limit) (admit.Enclose way other bound) first second =
      let same : Some flow ≡ Some way = one_flow node first.2.0 second.2.0 (Some flow) (Some way) first.2.1 second.2.1 first.2.2 second.2.2 in
      (cc, first.0 ∙ sym second.0, LimitOf-unique packet limit bound first.1 second.1)
  one_of_packet node (admit.Drop r) (admit.Plain other) first second = first-holds (refusals domain packet) r first (none_holds second.1.0 second.1.1)
  one_of_packet node (admit.Drop r) (admit.Enclose way other bound) first second = first-holds (refusals domain packet) r first (none_holds second.2.0 second.2.1)
  one_of_packet node (admit.Plain kept) (admit.Drop s) first second = first-holds (refusals domain packet) s second (none_holds first.1.0 first.1.1)
  one_of_packet node (admit.Enclose flow kept limit) (admit.Drop s) first second = first-holds (refusals domain packet) s second (none_holds first.2.0 first.2.1)
  one_of_packet node (admit.Plain kept) (admit.Enclose way other bound) first second =
      let same : None ≡ Some way = one_flow node first.1.0 second.2.0 None (Some way) first.1.1 second.2.1 first.1.2 second.2.2 in cc
  one_of_packet node (admit.Enclose flow kept limit) (admit.Plain other) first second =
      let same : Some flow ≡ None = one_flow node first.2.0 second.1.0 (Some flow) None first.2.1 second.1.1 first.2.2 second.1.2 in cc

one_drop : (r : Reason) (a b : Admit) → IsDrop r a → IsDrop r b → IsSame a b
one_drop r (admit.Drop s) (admit.Drop t) first second = first ∙ sym second
one_drop r (admit.Plain kept) b first second = absurd first
one_drop r (admit.Enclose flow kept limit) b first second = absurd first
one_drop r (admit.Drop s) (admit.Plain kept) first second = absurd second
one_drop r (admit.Drop s) (admit.Enclose flow kept limit) first second = absurd second

-- what is answered of a frame at a node
pub Admits-unique : (domain : Domain) (node : ℕ) (framing : Framing) (a b : Admit) → Admits domain node framing a → Admits domain node framing b
    → IsSame a b
Admits-unique domain node (Holds packet) a b first second = one_of_packet domain packet node a b first second
Admits-unique domain node NoIpv6 a b first second = one_drop reason.NotIpv6 a b first second
Admits-unique domain node CutShort a b first second = one_drop reason.Cut a b first second
Admits-unique domain node TooShort a b first second = one_drop reason.Length a b first second
