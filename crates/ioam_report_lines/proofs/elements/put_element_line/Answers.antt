use Rattle.std.proofs.Common.{◌+◌, ◌*◌, ◌<◌, ◌++◌, is_ok, cond, ap, ◌∙◌, arith}
use Rattle.std.specs.Prelude.{slice_index}
use Rattle.ioam_data.specs.Fields.{held}
use Rattle.ioam_report_lines.specs.Spaced.{spaced_fields}
use Rattle.ioam_report_lines.proofs.FittingLaws.{element-most}
use Rattle.ioam_report_lines.proofs.LeadLaws.{element_spaced, line-of}
use Rattle.ioam_report_lines.proofs.elements.put_element_line.Goals as goal

pub append_fields-requires-else-is_short : goal.append_fields-requires-else-is_short
append_fields-requires-else-is_short c =
    let element = c.args.element.now in
    let narrow : c.args.node_len < 256 = omega (arith, c.ranges.node_len.fits) in
    let below : slice_index element (0 + 4 * c.args.node_len) < 256 = omega (arith, c.type_inv.element (0 + 4 * c.args.node_len)) in
    let most = element-most c.args.kind c.args.node_len element (held c.fields-fields.result) c.fields-fields.ensures.value c.fields-fields.ensures.whole
    c.requires narrow below in
    (omega arith, omega (arith, most))

pub returns-then-is_short : goal.returns-then-is_short
returns-then-is_short c =
    let element = c.args.element.now in
    let words = spaced_fields (held c.fields-fields.result) in
    let spaced = element_spaced c.args.kind c.args.node_len element (held c.fields-fields.result) c.fields-fields.ensures.value c.fields-fields.ensures.whole c.requires in
    c.append_fields.ensures
    ∙ ap (λ xs. cond (is_ok c.append_fields.result) (c.args.out.now.items ++ xs) c.args.out.now.items) (line-of c.args.kind c.args.node_len element words spaced)

pub returns-else-is_short : goal.returns-else-is_short
returns-else-is_short c =
    let element = c.args.element.now in
    let words = spaced_fields (held c.fields-fields.result) in
    let spaced = element_spaced c.args.kind c.args.node_len element (held c.fields-fields.result) c.fields-fields.ensures.value c.fields-fields.ensures.whole c.requires in
    c.append_fields-else-is_short.ensures
    ∙ ap (λ xs. cond (is_ok c.append_fields-else-is_short.result) (c.args.out.now.items ++ xs) c.args.out.now.items) (line-of c.args.kind c.args.node_len element words spaced)
