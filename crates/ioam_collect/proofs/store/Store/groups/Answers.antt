use Rattle.std.proofs.lemmas.List.Elements.{recursion_from_All}
use Rattle.ioam_collect.proofs.StoreLaws.{all_below, keys_shown, shown_each, shown_some}
use Rattle.ioam_collect.proofs.store.Store.groups.Goals as goal

pub invariant_of-result : goal.invariant_of-result
invariant_of-result c = rw c.iter.ensures.rest (all_below _ _ _ _ c.self.invariant.0 c.iter.ensures.found)

pub returns-clause-in_order : goal.returns-clause-in_order
returns-clause-in_order c = rw (← c.self.view_is, keys_shown c.self.inside.pool c.self.inside.chains.map.entries) c.iter.ensures.ordered

pub returns-clause-some : goal.returns-clause-some
returns-clause-some c = rw (← c.self.view_is) (shown_some _ _ _ _ c.self.invariant.0 _ (recursion_from_All _ _ c.iter.ensures.found))

pub returns-clause-each : goal.returns-clause-each
returns-clause-each c = rw (← c.self.view_is) (shown_each _ _ _ _ c.self.invariant.0 _ (recursion_from_All _ _ c.iter.ensures.found))
