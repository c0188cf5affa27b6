use Rattle.std.proofs.Common.{◌≡◌, ℕ, List, ◌++◌, sym, ◌∙◌, ap, append_assoc, arith}
use Rattle.ioam_delay_lines.specs.Picture.{drawn_more, drawn_text, drawn_to, lines_text, row_count}
use Rattle.ioam_delay_lines.specs.declared.picture.Drawn.{Drawn}
use Rattle.ioam_delay_lines.proofs.PictureLaws.{drawn_text_more, drawn_to_more}
use Rattle.ioam_delay_lines.proofs.picture.put_rows.Goals as goal

pub rows-preserved : goal.rows-preserved
rows-preserved c =
    let counter = c.args.counter.now in
    let row = c.rows.row in
    let before = c.args.out.now.items in
    let drawn = drawn_text counter c.args.width c.args.most row in
    let count_is : c.row_count-count.result ≡ row_count counter c.args.width row = c.row_count-count.ensures.is in (
      c.in_ok-put_lines.ensures
          ∙ ap (λ (said : List ℕ). said ++ lines_text c.args.width c.args.most c.rows.drawn.gap row c.row_count-count.result) c.rows.invariant.0
          ∙ ap (λ (count : ℕ). (before ++ drawn) ++ lines_text c.args.width c.args.most c.rows.drawn.gap row count) count_is
          ∙ ap (λ (d : Drawn). (before ++ drawn) ++ lines_text c.args.width c.args.most d.gap row (row_count counter c.args.width row)) c.rows.invariant.1
          ∙ append_assoc before drawn (lines_text c.args.width c.args.most (drawn_to counter c.args.width row).gap row (row_count counter c.args.width row))
          ∙ ap (λ (lines : List ℕ). before ++ lines) (sym (drawn_text_more counter c.args.width c.args.most row)),
      c.more-drawn.ensures.is ∙ ap (λ (d : Drawn). drawn_more d c.row_count-count.result) c.rows.invariant.1
          ∙ ap (λ (count : ℕ). drawn_more (drawn_to counter c.args.width row) count) count_is ∙ sym (drawn_to_more counter c.args.width row),
      omega (arith, c.more-drawn.ensures.few, c.rows.invariant.2),
    )
