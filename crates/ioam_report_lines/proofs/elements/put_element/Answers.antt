use Rattle.std.proofs.Common.{◌≡◌, ◌++◌, ap, ◌∙◌, arith, rules}
use Rattle.ioam_data.specs.Elements.{IsElement}
use Rattle.ioam_data.specs.Fields.{held, fields_of}
use Rattle.ioam_data.specs.Kind.{words}
use Rattle.ioam_report_lines.proofs.FittingLaws.{exported-most}
use Rattle.ioam_report_lines.proofs.LeadLaws.{element_spaced}
use Rattle.ioam_report_lines.proofs.elements.put_element.Goals as goal

pub put_spaced-requires : goal.put_spaced-requires
put_spaced-requires c =
    let read : held c.fields.result ≡ fields_of c.args.kind (words c.args.kind) c.args.element.now =
    c.fields.ensures.value ∙ ap (λ n. fields_of c.args.kind n c.args.element.now) c.words.ensures.value in
    omega (arith, c.requires.room, exported-most c.args.kind c.args.element.now (held c.fields.result) read c.fields.ensures.whole c.requires.short)

pub returns-clause-size : goal.returns-clause-size
returns-clause-size c =
    let read : held c.fields.result ≡ fields_of c.args.kind (words c.args.kind) c.args.element.now =
    c.fields.ensures.value ∙ ap (λ n. fields_of c.args.kind n c.args.element.now) c.words.ensures.value in
    omega (arith, c.put_spaced.ensures.size, exported-most c.args.kind c.args.element.now (held c.fields.result) read c.fields.ensures.whole c.requires.short)

pub returns-clause-value : goal.returns-clause-value
returns-clause-value c =
    let read : held c.fields.result ≡ fields_of c.args.kind (words c.args.kind) c.args.element.now =
    c.fields.ensures.value ∙ ap (λ n. fields_of c.args.kind n c.args.element.now) c.words.ensures.value in
    let element : IsElement c.args.kind (words c.args.kind) c.args.element.now = search rules in
    c.put_spaced.ensures.value
    ∙ ap (λ xs. xs ++ c.args.line.now) (element_spaced c.args.kind (words c.args.kind) c.args.element.now (held c.fields.result) read c.fields.ensures.whole element)
