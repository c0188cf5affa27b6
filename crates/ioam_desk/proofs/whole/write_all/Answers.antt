use Rattle.std.proofs.Common.{◌∙◌}
use Rattle.ioam_desk.proofs.DeskLaws.{Grows-more, within_rest}
use Rattle.ioam_desk.proofs.whole.write_all.Goals as goal

pub loop-written-preserved : goal.loop-written-preserved
loop-written-preserved g c = record {
  fits = within_rest _ _ _ c.loop-written.invariant.fits c.in-Ok.ensures.written.1;
  side = c.in-Ok.ensures.written.2 ∙ c.loop-written.invariant.side;
  grows = Grows-more _ _ _ _ _ _ _ _ c.loop-written.invariant.grows c.in-Ok.ensures.written.3;
  inputs = c.in-Ok.ensures.inputs ∙ c.loop-written.invariant.inputs;
}
