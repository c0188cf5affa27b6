-- The first stop of a packet whose chain is whole and has no IOAM option.
use Rattle.std.proofs.Common.{◌≡◌, ℕ, ◌≤◌, List, true, false, IsTrue, Option, Some, inl, inr, refl, sym, ◌∙◌, ap}
use Rattle.ioam_ip.specs.Framing.{Framing, Holds, NoIpv6, CutShort, TooShort}
use Rattle.ioam_ip.specs.Header.{HasFields}
use Rattle.ioam_ip.specs.declared.packet.Header.{Header}
use Rattle.ioam_topo.specs.declared.domain.Domain.{Domain}
use Rattle.ioam_topo.specs.declared.ids.FlowId.{FlowId}
use Rattle.ioam_topo.specs.Domain.{is_local}
use Rattle.ioam_node.specs.Admission.{Admits, refusals, IsFree, CanEnter, flow_for, reason_of}
use Rattle.ioam_node.specs.Order.{IsFirst}
use Rattle.ioam_node.specs.declared.answer.Admit.TheVariants as admit
use Rattle.ioam_node.specs.declared.reason.Reason.{Reason}
use Rattle.ioam_node.specs.declared.reason.Reason.TheVariants as reason

-- a frame that holds no packet is dropped for its reason
pub Admits-drop : (domain : Domain) (node : ℕ) (framing : Framing) (why : Reason) → reason_of framing ≡ Some why → Admits domain node framing (admit.Drop why)
Admits-drop domain node (Holds packet) why is = absurd (cc is)
Admits-drop domain node NoIpv6 why is = cc is
Admits-drop domain node CutShort why is = cc is
Admits-drop domain node TooShort why is = cc is

module _ (domain : Domain) (packet : List ℕ) (header : Header) (is_free : IsFree packet header) where
  pub first_local : is_local domain header.target ≡ true → IsFirst (refusals domain packet) reason.Local
  first_local here = inr ((λ bad. bad is_free.sound), inr (is_free.free, inl ((header, is_free.fields, here), refl)))

  -- no other header of the packet has a target of the domain
  pub not_local : is_local domain header.target ≡ false → (h : Header) × HasFields packet h × IsTrue (is_local domain h.target) → ⊥
  not_local foreign own =
      let targets : header.target ≡ own.0.target = is_free.fields.target ∙ sym own.1.target in
      let differs : false ≡ true = sym foreign ∙ ap (is_local domain) targets ∙ own.2 in cc

  pub first_hop_limit : is_local domain header.target ≡ false → header.hops ≤ 1 → IsFirst (refusals domain packet) reason.HopLimit
  first_hop_limit foreign low =
      inr ((λ bad. bad is_free.sound), inr (is_free.free, inr (not_local foreign, inl ((header, is_free.fields, low), refl))))

  -- the packet is taken in, and this is its flow, if it has one
  pub enters : (node : ℕ) (flow : Option FlowId) → is_local domain header.target ≡ false → 2 ≤ header.hops → flow_for domain node header ≡ flow
      → (h : Header) × CanEnter domain packet h × (flow_for domain node h ≡ flow)
  enters node flow foreign high is = (header, record { is_free = is_free; target = foreign; hops = high }, is)
