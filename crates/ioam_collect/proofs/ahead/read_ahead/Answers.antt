use Rattle.ioam_collect.proofs.AheadLaws.{one_more, at_most}
use Rattle.ioam_collect.proofs.ahead.read_ahead.Goals as goal

pub steps-preserved : goal.steps-preserved
steps-preserved c = one_more _ _ c.steps.counter _ _ _ _ c.steps.invariant c.read_one_of_each-found.ensures c.read_one_of_each-found.auto.groups c.saturating_add-count.ensures

pub returns-after-steps : goal.returns-after-steps
returns-after-steps c = at_most _ c.steps.counter _ _ _ c.steps.invariant c.steps.auto.counter-end c.steps.auto.groups

pub returns-then-found-eq0 : goal.returns-then-found-eq0
returns-then-found-eq0 c = at_most _ c.steps.counter _ _ _ c.steps.invariant c.steps.auto.counter-end c.steps.auto.groups
