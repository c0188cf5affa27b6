use Rattle.std.proofs.Common.{◌∙◌}
use Rattle.ioam_ipfix.proofs.RunLaws.{first-is}
use Rattle.ioam_ipfix.proofs.writer.first_template.Goals as goal

pub template_of-requires : goal.template_of-requires
template_of-requires c =
    let r = c.requires in
    (r.0, first-is c.args.run.now r.0 r.1 r.2 r.3 c.from-size.result (c.from-size.ensures ∙ c.u16_at.ensures))

pub returns : goal.returns
returns c = λ x behind is_x is.
    c.template_of.ensures x (first-is c.args.run.now x behind is_x is c.from-size.result (c.from-size.ensures ∙ c.u16_at.ensures))
