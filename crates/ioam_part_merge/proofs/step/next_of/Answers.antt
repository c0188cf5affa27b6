use Rattle.std.proofs.Common.{arith}
use Rattle.ioam_part_merge.proofs.step.next_of.Goals as goal

pub steps-preserved : goal.steps-preserved
steps-preserved c = record {
  comes = λ ps comes. c.in-Without.ensures.steps ps (c.steps.invariant.comes ps comes);
  left = omega (arith, c.in-Without.ensures.fewer, c.steps.invariant.left);
}

pub returns-in-Done-clause-next : goal.returns-in-Done-clause-next
returns-in-Done-clause-next c = λ ps comes. c.in-Done.ensures.steps ps (c.steps.invariant.comes ps comes)

pub returns-in-Taken-clause-next : goal.returns-in-Taken-clause-next
returns-in-Taken-clause-next c = λ ps comes. c.in-Taken.ensures.steps ps (c.steps.invariant.comes ps comes)
