use Rattle.std.proofs.Common.{◌++◌, codes, is_ok, cond, sym, ap, ◌∙◌, arith, refl}
use Rattle.ioam_base.specs.Octets.{IsOctets}
use Rattle.ioam_data.specs.Fields.{fields_of}
use Rattle.ioam_data.proofs.WholeLaws.{fields_of-whole}
use Rattle.ioam_report_lines.specs.Early.{early_text}
use Rattle.ioam_report_lines.proofs.EarlyLaws.{early_spaced}
use Rattle.ioam_report_lines.proofs.LeadLaws.{element_spaced, line-of}
use Rattle.ioam_report_lines.proofs.early.append_early.Goals as goal

pub returns : goal.returns
returns g c =
    let kind = c.args.kind in
    let node_len = c.args.node_len in
    let element = c.args.element.now in
    let octets : IsOctets element = λ i. omega (arith, c.type_inv.element i) in
    let whole = fields_of-whole kind node_len element octets c.requires.element in
    let spaced = sym (early_spaced kind node_len element c.requires.early)
    ∙ element_spaced kind node_len element (fields_of kind node_len element) refl whole c.requires.element in
    c.finish.ensures
    ∙ ap (λ xs. cond (is_ok c.finish.result) (c.args.out.now.items ++ xs) c.args.out.now.items)
    (c.put.ensures.value
    ∙ ap (λ xs. codes "   " ++ xs) (c.put_early.ensures.value ∙ ap (λ xs. early_text kind element ++ xs) c.end.ensures.value)
    ∙ line-of kind node_len element (early_text kind element) spaced)
