use Rattle.std.proofs.Common.{refl, ◌≤◌, length, subst, sym}
use Rattle.ioam_ip.specs.declared.chain.HeadSpot.{HeadSpot}
use Rattle.ioam_ip.proofs.WalkLaws.{Walked-push, Walked-ends, Walked-bad}
use Rattle.ioam_ip.proofs.walks.walk.Goals as goal

pub loop-next-preserved : goal.loop-next-preserved
loop-next-preserved c =
    let on = c.in-On.ensures in
    let P : HeadSpot → Type 0 = λ next. next.at ≤ length c.args.packet.now in (
      Walked-push c.args.packet.now c.loop-next.spot c.in-On.next c.loop-next.passed c.with-passed.result c.in-On.found on.2.0
          c.loop-next.invariant.0 on.0 on.1 on.2.1 on.2.2
          c.with-passed.ensures.inside c.with-passed.ensures.ioam c.with-passed.ensures.limit,
      subst P (sym on.1) on.0.0,
    )

pub returns-in-Ends-clause-whole : goal.returns-in-Ends-clause-whole
returns-in-Ends-clause-whole c =
    ((λ _. (Walked-ends c.args.packet.now c.loop-next.spot c.loop-next.passed c.loop-next.invariant.0 c.in-Ends.ensures).sound), (λ _. refl))

pub returns-in-Ends-clause-tells : goal.returns-in-Ends-clause-tells
returns-in-Ends-clause-tells c =
    Walked-ends c.args.packet.now c.loop-next.spot c.loop-next.passed c.loop-next.invariant.0 c.in-Ends.ensures

pub returns-in-Breaks-clause-whole : goal.returns-in-Breaks-clause-whole
returns-in-Breaks-clause-whole c = (
  (λ no. absurd (cc no)),
  (λ sound. absurd ((Walked-bad c.args.packet.now c.loop-next.spot c.loop-next.passed c.loop-next.invariant.0 c.in-Breaks.ensures.0 c.in-Breaks.ensures.1).1 sound)),
)

pub returns-in-Breaks-clause-tells : goal.returns-in-Breaks-clause-tells
returns-in-Breaks-clause-tells c =
    Walked-bad c.args.packet.now c.loop-next.spot c.loop-next.passed c.loop-next.invariant.0 c.in-Breaks.ensures.0 c.in-Breaks.ensures.1
