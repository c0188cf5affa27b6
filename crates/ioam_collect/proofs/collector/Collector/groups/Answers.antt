use Rattle.ioam_collect.proofs.CollectedLaws.{stands_groups}
use Rattle.ioam_collect.proofs.collector.Collector.groups.Goals as goal

pub returns-clause-exact : goal.returns-clause-exact
returns-clause-exact c =
    rw (c.groups.ensures.groups, ← c.self.view_is) (stands_groups _ c.groups.ensures.in_order c.groups.ensures.some)
