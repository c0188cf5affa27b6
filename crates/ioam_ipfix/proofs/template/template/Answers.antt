use Rattle.std.proofs.Common.{◌++◌, ◌∷◌, [], ap, ◌∙◌}
use Rattle.std.specs.Prelude.{flat_map}
use Rattle.ioam_base.specs.Words.{two_octets}
use Rattle.ioam_ipfix.specs.Templates.{only, field_octets}
use Rattle.ioam_ipfix.proofs.TemplateLaws.{template_built}
use Rattle.ioam_ipfix.proofs.template.template.Goals as goal

pub returns : goal.returns
returns c =
    let v = c.tells_visit-visit.result in
    let f = c.tells_flow-flow.result in
    let s = c.tells_seq-seq.result in
    let head = c.head.ensures.value ∙ ap (λ o. o ++ (two_octets c.args.id ++ two_octets c.field_count.result)) c.new-template.ensures in
    let one = c.field.ensures.value ∙ ap (λ o. o ++ field_octets (1, 2)) head in
    let two = c.field-2.ensures.value ∙ ap (λ o. o ++ field_octets (2, 1)) one in
    let three = c.field-3.ensures.value ∙ ap (λ o. o ++ field_octets (3, 1)) two in
    let four = c.field-4.ensures.value ∙ ap (λ o. o ++ field_octets (4, 3)) three in
    let visit = c.visit.ensures.value ∙ ap (λ o. o ++ flat_map field_octets (only v ((5, 8) ∷ (6, 4) ∷ []))) four in
    let flow = c.number.ensures.value ∙ ap (λ o. o ++ flat_map field_octets (only f ((7, 4) ∷ []))) visit in
    let seq = c.number-2.ensures.value ∙ ap (λ o. o ++ flat_map field_octets (only s ((8, 4) ∷ []))) flow in
    let last = c.field-5.ensures.value ∙ ap (λ o. o ++ field_octets (9, 65535)) seq in
    last ∙ template_built c.args.id c.field_count.result v f s c.tells_visit-visit.ensures c.tells_flow-flow.ensures c.tells_seq-seq.ensures c.field_count.ensures
