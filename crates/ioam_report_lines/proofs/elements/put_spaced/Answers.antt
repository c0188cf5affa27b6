use Rattle.std.proofs.Common.{◌++◌, ◌/◌, length, ap, ◌∙◌}
use Rattle.ioam_data.specs.Fields.{held}
use Rattle.ioam_report_lines.specs.Spaced.{bits_text, fillers_text}
use Rattle.ioam_report_lines.proofs.SpacedLaws.{spaced-parts}
use Rattle.ioam_report_lines.proofs.elements.put_spaced.Goals as goal

pub returns-clause-value : goal.returns-clause-value
returns-clause-value g c =
    let fields = held c.args.fields.now in
    c.put_bits.ensures.value
    ∙ ap (λ xs. bits_text fields ++ xs) (c.put_fillers.ensures.value
    ∙ ap (λ xs. fillers_text (length fields.filler / 4) fields.filler ++ xs) c.put_snapshot.ensures.value)
    ∙ spaced-parts fields c.args.line.now
