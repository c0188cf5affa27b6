use Rattle.std.proofs.Common.{◌≡◌, ◌+◌, sym, ◌∙◌, arith, refl, slice_index}
use Rattle.ioam_ip.specs.Options.{item_at}
use Rattle.ioam_ip.proofs.OptionsLeftLaws.{step_option, step_padding}
use Rattle.ioam_ip.specs.Spot.{item_in}
use Rattle.ioam_ip.specs.declared.next.OptionSpot.{OptionSpot}
use Rattle.ioam_ip.proofs.NextLaws.{body_is, end_is}
use Rattle.ioam_ip.proofs.next.next_option.Goals as goal

pub returns-then-head-at-gt1 : goal.returns-then-head-at-gt1
returns-then-head-at-gt1 c =
    let head = c.args.head.now in
    let at = c.options.at in
    let spot : OptionSpot = record { kind = slice_index head at; at = at; size = slice_index head (at + 1) } in
    let above = c.if-head-at-gt1.true in
    let item : item_in head spot ≡ item_at head at = λ i. record { kind = slice_index head at; at = at; body = body_is head at above i } in
    record {
      first = sym c.options.invariant.1
          ∙ step_option head head at (at + 2 + slice_index head (at + 1)) (item_in head spot) refl c.in-Some.ensures.1 above (end_is head at above) item;
      behind = c.options.invariant.0;
      within = omega (arith, end_is head at above, c.in-Some.ensures.1);
    }

pub options-preserved : goal.options-preserved
options-preserved c = (
  omega (arith, c.in-Some.ensures.0, c.options.invariant.0),
  step_padding c.args.head.now c.options.at c.in-Some.end c.in-Some.ensures.1 c.if-head-at-gt1.false c.in-Some.ensures.0
      ∙ c.options.invariant.1,
)
