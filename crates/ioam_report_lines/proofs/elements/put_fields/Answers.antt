use Rattle.std.proofs.Common.{◌≡◌, ◌+◌, ◌*◌, ◌<◌, ◌++◌, ◌∷◌, [], drop, length, is_ok, cond, ap, ◌∙◌, append-nil, arith, rules}
use Rattle.std.specs.Prelude.{slice_index}
use Rattle.ioam_data.specs.Elements.{IsElement}
use Rattle.ioam_data.specs.Fields.{held}
use Rattle.ioam_report_lines.specs.FieldsText.{element_text}
use Rattle.ioam_report_lines.proofs.FittingLaws.{element-most}
use Rattle.ioam_report_lines.proofs.LeadLaws.{element_spaced}
use Rattle.ioam_report_lines.proofs.elements.put_fields.Goals as goal

pub put_spaced-requires : goal.put_spaced-requires
put_spaced-requires c =
    let octets = c.args.element.now in
    let element : IsElement c.args.kind c.args.node_len octets = search rules in
    let narrow : c.args.node_len < 256 = omega (arith, c.ranges.node_len.fits) in
    let below : slice_index octets (0 + 4 * c.args.node_len) < 256 = omega (arith, c.type_inv.element (0 + 4 * c.args.node_len)) in
    let most = element-most c.args.kind c.args.node_len octets (held c.fields.result) c.fields.ensures.value c.fields.ensures.whole element narrow below in
    (omega arith, omega (arith, most, ap length c.new-line.ensures))

pub split_at-requires : goal.split_at-requires
split_at-requires c =
    let octets = c.args.element.now in
    let element : IsElement c.args.kind c.args.node_len octets = search rules in
    let spaced = element_spaced c.args.kind c.args.node_len octets (held c.fields.result) c.fields.ensures.value c.fields.ensures.whole element in
    let all : c.octets.result.now ≡ (32 ∷ element_text c.args.kind c.args.node_len octets) ++ c.new-line.result =
    c.octets.ensures ∙ c.put_spaced.ensures.value ∙ ap (λ xs. xs ++ c.new-line.result) spaced in
    omega (arith, ap length all)

pub returns : goal.returns
returns c =
    let octets = c.args.element.now in
    let text = element_text c.args.kind c.args.node_len octets in
    let element : IsElement c.args.kind c.args.node_len octets = search rules in
    let spaced = element_spaced c.args.kind c.args.node_len octets (held c.fields.result) c.fields.ensures.value c.fields.ensures.whole element in
    let all : c.octets.result.now ≡ (32 ∷ text) ++ [] =
    c.octets.ensures ∙ c.put_spaced.ensures.value ∙ ap (λ xs. xs ++ c.new-line.result) spaced ∙ ap (λ xs. (32 ∷ text) ++ xs) c.new-line.ensures in
    let rest : c.split_at.result.1.now ≡ drop 1 c.octets.result.now = search rules in
    c.append.ensures
    ∙ ap (λ xs. cond (is_ok c.append.result) (c.args.out.now.items ++ xs) c.args.out.now.items) (rest ∙ ap (drop 1) all ∙ append-nil text)
