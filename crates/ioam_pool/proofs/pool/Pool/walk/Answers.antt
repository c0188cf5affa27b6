use Rattle.ioam_pool.proofs.PoolLaws.{ends_at, order_at, chain_order}
use Rattle.ioam_pool.proofs.pool.Pool.walk.Goals as goal

pub invariant_of-result : goal.invariant_of-result
invariant_of-result c =
    let there = rw (← c.self.view_is, ← c.chain.view_is) at c.requires in
    rw c.deref.ensures.value (ends_at _ _ _ _ c.self.invariant.0 _ there _ c.index.ensures)

pub returns-clause-in_order : goal.returns-clause-in_order
returns-clause-in_order c =
    let there = rw (← c.self.view_is, ← c.chain.view_is) at c.requires in
    rw c.deref.ensures.value (order_at _ _ _ _ c.self.invariant.0 _ there _ c.index.ensures)

pub returns-clause-apart : goal.returns-clause-apart
returns-clause-apart c =
    let there = rw (← c.self.view_is, ← c.chain.view_is) at c.requires in
    rw c.deref.ensures.value (chain_order _ _ _ _ c.self.invariant.0 _ there _ c.index.ensures)
