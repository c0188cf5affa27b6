use Rattle.std.proofs.Common.{◌++◌, codes, is_ok, cond, ap, ◌∙◌}
use Rattle.ioam_data.specs.Fields.{held}
use Rattle.ioam_report_lines.specs.Spaced.{spaced_fields}
use Rattle.ioam_report_lines.proofs.elements.append_fields.Goals as goal

pub returns : goal.returns
returns g c =
    let words = spaced_fields (held c.args.fields.now) in
    c.finish.ensures
    ∙ ap (λ xs. cond (is_ok c.finish.result) (c.args.out.now.items ++ xs) c.args.out.now.items)
    (c.put.ensures.value ∙ ap (λ xs. codes "   " ++ xs) (c.put_spaced.ensures.value ∙ ap (λ xs. words ++ xs) c.end.ensures.value))
