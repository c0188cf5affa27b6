use Rattle.std.proofs.Common.{refl}
use Rattle.ioam_pool.proofs.GuideLaws.{guides_on}
use Rattle.ioam_pool.proofs.PoolLaws.{head_is, ends_at, chain_order, tied_not_apart, no_repeat, no_replace}
use Rattle.ioam_pool.proofs.pool.Pool.is_apart.Goals as goal

pub seat_of-requires-clause-ends : goal.seat_of-requires-clause-ends
seat_of-requires-clause-ends c =
    let there = rw (← c.self.view_is, ← c.chain.view_is) at c.requires in
    rw c.deref-2.ensures.value (ends_at _ _ _ _ c.self.invariant.0 _ there _ c.index-head.ensures)

pub seat_of-requires-clause-in_order : goal.seat_of-requires-clause-in_order
seat_of-requires-clause-in_order c =
    let there = rw (← c.self.view_is, ← c.chain.view_is) at c.requires in
    rw c.deref-2.ensures.value (chain_order _ _ _ _ c.self.invariant.0 _ there _ c.index-head.ensures)

pub seat_of-requires-clause-guided : goal.seat_of-requires-clause-guided
seat_of-requires-clause-guided c =
    let there = rw (← c.self.view_is, ← c.chain.view_is) at c.requires in
    rw (c.deref.ensures.value, c.deref-2.ensures.value)
    (guides_on _ _ _ c.self.invariant.1 _ _ (head_is _ _ _ _ c.self.invariant.0 _ there _ c.index-head.ensures))

pub returns-in-Tied : goal.returns-in-Tied
returns-in-Tied c =
    let there = rw (← c.self.view_is, ← c.chain.view_is) at c.requires in
    let tie = rw c.deref-2.ensures.value at c.in-Tied.ensures in
    rw (← c.self.view_is, ← c.chain.view_is) ((λ is. absurd (cc is)), (λ apart. absurd (tied_not_apart _ _ _ _ c.self.invariant.0 _ there _ c.index-head.ensures _ _ tie apart)))

pub returns-in-Behind : goal.returns-in-Behind
returns-in-Behind c =
    let there = rw (← c.self.view_is, ← c.chain.view_is) at c.requires in
    let gap = rw c.deref-2.ensures.value at c.in-Behind.ensures in
    rw (← c.self.view_is, ← c.chain.view_is) ((λ is. (no_repeat _ _ _ _ c.self.invariant.0 _ there _ c.index-head.ensures _ _ gap, no_replace _ _ _ _ c.self.invariant.0 _ there _ c.index-head.ensures _ _ gap)), (λ apart. refl))
