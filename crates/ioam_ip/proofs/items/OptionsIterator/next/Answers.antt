use Rattle.std.proofs.Common.{rules, sym, ◌∙◌}
use Rattle.ioam_ip.specs.OptionsLeft.{options_left, item_of}
use Rattle.ioam_ip.proofs.OptionsLeftLaws.{step_option, step_padding}
use Rattle.ioam_ip.proofs.IteratorLaws.{goes-first}
use Rattle.ioam_ip.proofs.items.OptionsIterator.next.Goals as goal

pub returns-then-head-at-gt1-clause-steps : goal.returns-then-head-at-gt1-clause-steps
returns-then-head-at-gt1-clause-steps c =
    sym c.loop-self.invariant.2
    ∙ step_option c.args.self.now.head.now c.loop-self.self.head.now c.loop-self.self.at c.in-Some.end (item_of c.option_at.result)
    c.loop-self.invariant.1 c.in-Some.ensures.1 c.if-head-at-gt1.true c.in-Some.ensures.0 c.option_at.ensures

pub returns-then-head-at-gt1-clause-goes : goal.returns-then-head-at-gt1-clause-goes
returns-then-head-at-gt1-clause-goes c =
    goes-first item_of options_left _ _ _ _ (returns-then-head-at-gt1-clause-steps c) (search rules)

pub loop-self-preserved : goal.loop-self-preserved
loop-self-preserved c = (
  c.loop-self.invariant.0,
  c.loop-self.invariant.1,
  step_padding c.args.self.now.head.now c.loop-self.self.at c.in-Some.end c.in-Some.ensures.1 c.if-head-at-gt1.false c.in-Some.ensures.0
      ∙ c.loop-self.invariant.2,
)
