use Rattle.std.proofs.Common.{length, ap, ◌∙◌, arith}
use Rattle.ioam_ipfix.proofs.DataLaws.{template-by}
use Rattle.ioam_ipfix.proofs.data.template_of.Goals as goal

pub template_at-requires : goal.template_at-requires
template_at-requires c = omega (arith, ap length c.requires.1.is)

pub returns : goal.returns
returns c = λ x whole. c.template_at.ensures ∙ template-by c.args.octets.now x whole
