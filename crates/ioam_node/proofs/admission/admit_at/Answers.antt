use Rattle.std.proofs.Common.{sym, ◌∙◌, subst}
use Rattle.ioam_ip.specs.Framing.{Framing, IfHolds}
use Rattle.ioam_ip.specs.Packet.{IsPacket}
use Rattle.ioam_node.specs.Admission.{Admits}
use Rattle.ioam_node.specs.declared.answer.Admit.TheVariants as admit
use Rattle.ioam_node.proofs.AdmissionLaws.{Admits-drop}
use Rattle.ioam_node.proofs.admission.admit_at.Goals as goal

pub admit_packet-requires : goal.admit_packet-requires
admit_packet-requires c =
    let P : Framing → Type 0 = λ f. IfHolds f (λ packet. IsPacket packet) in
    subst P c.in-Ok.ensures.packet c.packet_in_layer.ensures.packet

pub returns-in-Ok-clause-admits : goal.returns-in-Ok-clause-admits
returns-in-Ok-clause-admits c =
    let P : Framing → Type 0 = λ f. Admits c.args.domain.now c.args.node.0 f c.admit_packet.result in
    subst P (sym c.in-Ok.ensures.packet ∙ c.packet_in_layer.ensures.framing) c.admit_packet.ensures.admits

pub returns-in-Err-clause-admits : goal.returns-in-Err-clause-admits
returns-in-Err-clause-admits c =
    let P : Framing → Type 0 = λ f. Admits c.args.domain.now c.args.node.0 f (admit.Drop c.in-Err.reason) in
    subst P c.packet_in_layer.ensures.framing (Admits-drop c.args.domain.now c.args.node.0 _ c.in-Err.reason c.in-Err.ensures.reason)
