use Rattle.std.proofs.Common.{◌-◌, ◌<◌, length, ◌∙◌, ap, arith}
use Rattle.std.specs.Prelude.{slice_index, slice_set}
use Rattle.std.proofs.lemmas.List.{length-drop}
use Rattle.ioam_batch.proofs.RanLaws.{inside-index, lower-past, lowered-more}
use Rattle.ioam_batch.proofs.plainly.lower.Goals as goal

pub loop-i-preserved : goal.loop-i-preserved
loop-i-preserved c =
    let first = c.args.packet.now in
    let invariant = c.loop-i.invariant in
    let long : 7 < length first = inside-index first 7 (omega (arith, c.requires.hops)) in
    let less = lowered-more first c.loop-i.packet c.loop-i.i long invariant.0 in
    let some : 0 < length c.loop-i.crossings.ahead = omega (arith, invariant.2) in (
      less,
      lower-past first (slice_set c.loop-i.packet 7 (slice_index c.loop-i.packet 7 - 1)) c.loop-i.i c.loop-i.crossings.past c.cross.new.self.past
          c.loop-i.crossings.ahead c.cross.new.self.ahead c.cross.ensures.past c.cross.ensures.ahead less some
          ∙ invariant.1,
      omega (arith, invariant.2, some, ap length c.cross.ensures.ahead, length-drop 1 c.loop-i.crossings.ahead),
      c.cross.ensures.size ∙ invariant.3,
      c.cross.ensures.capacities ∙ invariant.4,
      c.cross.ensures.taps ∙ invariant.5,
    )
