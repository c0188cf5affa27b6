use Rattle.std.proofs.Common.{◌++◌, ◌∷◌, [], append_assoc, ap, sym, ◌∙◌}
use Rattle.std.specs.Prelude.{flat_map}
use Rattle.ioam_ipfix.specs.Templates.{only, field_octets}
use Rattle.ioam_ipfix.proofs.template.TemplateBuf.visit.Goals as goal

pub returns-then-there-clause-value : goal.returns-then-there-clause-value
returns-then-there-clause-value c =
    let before = c.args.self.now in
    c.field-then-there.ensures.value ∙ ap (λ o. o ++ field_octets (6, 4)) c.field.ensures.value ∙ append_assoc before (field_octets (5, 8)) (field_octets (6, 4))
    ∙ ap (λ there. before ++ flat_map field_octets (only there ((5, 8) ∷ (6, 4) ∷ []))) (sym c.if-there.true)
