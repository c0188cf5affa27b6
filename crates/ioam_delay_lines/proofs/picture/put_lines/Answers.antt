use Rattle.std.proofs.Common.{ℕ, List, ◌++◌, ◌∙◌, ap, sym, arith}
use Rattle.ioam_base.proofs.ResultLaws.{OnOk-map}
use Rattle.ioam_delay_lines.proofs.PictureLaws.{lines_some}
use Rattle.ioam_delay_lines.proofs.picture.put_lines.Goals as goal

pub returns-else-count-eq0 : goal.returns-else-count-eq0
returns-else-count-eq0 c = OnOk-map c.put_row.result _ _ c.put_row.ensures
    (λ adds. adds ∙ ap (λ (line : List ℕ). c.args.out.now.items ++ line)
    (sym (lines_some c.args.width c.args.most c.args.row c.args.gap c.args.count (omega (arith, c.if-count-eq0.false)))))
