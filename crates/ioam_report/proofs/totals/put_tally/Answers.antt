use Rattle.std.proofs.Common.{◌++◌, codes, decimal, ap, ◌∙◌}
use Rattle.ioam_report.specs.SumsText.{next_text}
use Rattle.ioam_report.proofs.TallyLaws.{tally_parts}
use Rattle.ioam_report.proofs.totals.put_tally.Goals as goal

pub returns-clause-value : goal.returns-clause-value
returns-clause-value c =
    let tally = c.args.tally.now in
    c.put-5.ensures.value
    ∙ ap (λ xs. (codes " next " ++ xs) ++ c.put-4.new.self) c.next.ensures.value
    ∙ ap (λ xs. (codes " next " ++ next_text tally.next) ++ xs) (c.put-4.ensures.value
    ∙ ap (λ xs. (codes " gaps " ++ decimal tally.gaps) ++ xs) (c.put-3.ensures.value
    ∙ ap (λ xs. (codes " missed " ++ decimal tally.missed) ++ xs) (c.put-2.ensures.value
    ∙ ap (λ xs. (codes " late " ++ decimal tally.late) ++ xs) c.put.ensures.value)))
    ∙ tally_parts tally c.args.line.now
