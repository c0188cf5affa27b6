use Rattle.std.proofs.Common.{◌≡◌, ℕ, suc, ◌+◌, ◌-◌, ◌*◌, refl, sym, ◌∙◌, ap, arith}
use Rattle.std.proofs.lemmas.Grind.{pow_more}
use Rattle.ioam_delay_lines.specs.Picture.{width_from}
use Rattle.ioam_delay_lines.proofs.PictureLaws.{width_first, width_last, width_more, width_now}
use Rattle.ioam_delay_lines.proofs.picture.width_of.Goals as goal

pub widths-init : goal.widths-init
widths-init c = (width_first c.args.counter.now, refl)

pub returns-then-lines-le-LINES-clause-is : goal.returns-then-lines-le-LINES-clause-is
returns-then-lines-le-LINES-clause-is c =
    sym (c.widths.invariant.0 ∙ width_now c.args.counter.now (8 - c.widths.step) c.widths.width (omega (arith, c.lines.ensures, c.if-lines-le-LINES.true)))

pub widths-preserved : goal.widths-preserved
widths-preserved c =
    let counter = c.args.counter.now in
    let left = 8 - (c.widths.step + 1) in
    let one : 8 - c.widths.step ≡ suc left = omega (arith, c.widths-test.true) in (
      c.widths.invariant.0 ∙ ap (λ (more : ℕ). width_from counter more c.widths.width) one
          ∙ width_more counter left c.widths.width (omega (arith, c.lines.ensures, c.if-lines-le-LINES.false))
          ∙ ap (λ (width : ℕ). width_from counter left width) (omega arith),
      ap (λ (width : ℕ). width * 2) c.widths.invariant.1 ∙ sym (pow_more 2 c.widths.step),
    )

pub returns-clause-is : goal.returns-clause-is
returns-clause-is c =
    sym (c.widths.invariant.0 ∙ ap (λ (left : ℕ). width_from c.args.counter.now left c.widths.width) (omega (arith, c.widths-test.false)) ∙ width_last c.args.counter.now c.widths.width)
