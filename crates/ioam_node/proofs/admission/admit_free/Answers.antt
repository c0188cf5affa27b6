use Rattle.std.proofs.Common.{refl, sym, ◌∙◌, arith}
use Rattle.ioam_node.proofs.AdmissionLaws.{first_local, first_hop_limit, enters}
use Rattle.ioam_node.proofs.admission.admit_free.Goals as goal

pub returns-then-is_local-clause-admits : goal.returns-then-is_local-clause-admits
returns-then-is_local-clause-admits c = first_local c.args.domain.now c.args.packet.now c.args.header.now c.requires.is_free
    (sym c.is_local.ensures ∙ c.if-is_local.true)

pub returns-then-header-le1-clause-admits : goal.returns-then-header-le1-clause-admits
returns-then-header-le1-clause-admits c = first_hop_limit c.args.domain.now c.args.packet.now c.args.header.now c.requires.is_free
    (sym c.is_local.ensures ∙ c.if-is_local.false) c.if-header-le1.true

pub returns-in-None-clause-admits : goal.returns-in-None-clause-admits
returns-in-None-clause-admits c = (
  refl,
  enters c.args.domain.now c.args.packet.now c.args.header.now c.requires.is_free c.args.node.0 _
      (sym c.is_local.ensures ∙ c.if-is_local.false) (omega arith) (sym c.flow_at.ensures.value ∙ c.in-None.is),
)

pub returns-in-Some-clause-admits : goal.returns-in-Some-clause-admits
returns-in-Some-clause-admits c = (
  refl,
  c.requires.limit,
  enters c.args.domain.now c.args.packet.now c.args.header.now c.requires.is_free c.args.node.0 _
      (sym c.is_local.ensures ∙ c.if-is_local.false) (omega arith) (sym c.flow_at.ensures.value ∙ c.in-Some.is),
)
