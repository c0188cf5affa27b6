-- The packet of a record, and why it has none.
use Rattle.std.proofs.Common.{◌≡◌, ℕ, List, Some, None, sym, ap, ◌∙◌, subst, inl, inr}
use Rattle.ioam_ip.specs.Chain.{IsSound}
use Rattle.ioam_ip.specs.Framing.{Framing, Holds, NoIpv6, CutShort, TooShort}
use Rattle.ioam_node.specs.Admission.{reason_of}
use Rattle.ioam_node.specs.declared.reason.Reason.{Reason}
use Rattle.ioam_pcap.specs.Entries.{Taken}
use Rattle.ioam_run_stream.specs.Frame.{taken_framing}
use Rattle.ioam_run_audit.specs.Fit.{CameFrom, HasReason, HoldsPacket, IsFit, Place}

abbrev packet_in : List ℕ → Framing → List ℕ
packet_in other (Holds packet) = packet
packet_in other NoIpv6 = other
packet_in other CutShort = other
packet_in other TooShort = other

-- it holds one
pub one_packet : (t : Taken) (p q : List ℕ) → taken_framing t ≡ Holds p → taken_framing t ≡ Holds q → p ≡ q
one_packet t p q first second = ap (packet_in p) (sym first ∙ second)

no_reason : (why : Reason) → None ≡ Some why → ⊥
no_reason why same = cc

-- what has a reason holds none
pub reason_apart : (t : Taken) (why : Reason) (p : List ℕ) → HasReason t why → HoldsPacket t p → ⊥
reason_apart t why p has holds = elim has as (λ _. ⊥) [
  | inl framed ↦ no_reason why (sym (ap reason_of holds.framed) ∙ framed)
  | inr broken ↦ broken.2 (subst IsSound (one_packet t p broken.0 holds.framed broken.1) holds.sound)
]

pub skipped_apart : (place : Place) (b : Taken) (why : Reason) (a : Taken) → HasReason b why → CameFrom place b a → ⊥
skipped_apart place b why a has came = reason_apart b why came.sent has came.holds_sent

pub came_fit : (place : Place) (b a : Taken) → CameFrom place b a → IsFit a
came_fit place b a came = (came.came, came.holds_came)
