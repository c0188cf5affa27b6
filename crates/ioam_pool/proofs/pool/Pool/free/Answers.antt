use Rattle.std.proofs.Common.{arith, refl}
use Rattle.ioam_pool.proofs.PoolLaws.{ends_at, last_in_cells, freed_pool, freed_guided, freed_seen, freed_count, free_none, still_room}
use Rattle.ioam_pool.proofs.pool.Pool.free.Goals as goal

pub last_of-requires-clause-ends : goal.last_of-requires-clause-ends
last_of-requires-clause-ends c =
    let there = rw (← c.self.view_is, ← c.chain.view_is) at c.requires in
    rw c.deref.ensures.value (ends_at _ _ _ _ c.self.invariant.0 _ there _ c.index-head.ensures)

pub index_mut-cell-requires : goal.index_mut-cell-requires
index_mut-cell-requires c =
    let there = rw (← c.self.view_is, ← c.chain.view_is) at c.requires in
    let found = rw c.deref.ensures.value at c.in-Some.ensures in
    let inside = last_in_cells _ _ _ _ c.self.invariant.0 _ there _ c.index-head.ensures _ _ found in
    omega (arith, c.self.inside.cells.ok)

pub overflow_sub-self : goal.overflow_sub-self
overflow_sub-self c =
    let there = rw (← c.self.view_is, ← c.chain.view_is) at c.requires in
    let found = rw c.deref.ensures.value at c.in-Some.ensures in
    freed_count _ _ _ _ c.self.invariant.0 _ there _ c.index-head.ensures _ _ found _ c.index_mut-cell.ensures.value

pub invariant_of-self : goal.invariant_of-self
invariant_of-self c =
    let there = rw (← c.self.view_is, ← c.chain.view_is) at c.requires in
    let found = rw c.deref.ensures.value at c.in-Some.ensures in (
      freed_pool _ _ _ _ c.self.invariant.0 _ there _ c.index-head.ensures _ _ found _ c.index_mut-cell.ensures.value,
      freed_guided _ _ _ _ c.self.invariant.0 _ there _ c.index-head.ensures _ _ found _ c.index_mut-cell.ensures.value _ _ c.self.invariant.1 c.drop_guides.ensures.items,
      still_room _ _ _ _ _ _ _ _ _ _ c.self.invariant.2 refl refl refl c.drop_guides.ensures.room refl,
    )

pub returns-in-Some : goal.returns-in-Some
returns-in-Some c =
    let there = rw (← c.self.view_is, ← c.chain.view_is) at c.requires in
    let found = rw c.deref.ensures.value at c.in-Some.ensures in
    rw (← c.self.view_is, ← c.chain.view_is) (freed_seen _ _ _ _ c.self.invariant.0 _ there _ c.index-head.ensures _ _ found _ c.index_mut-cell.ensures.value)

pub returns-in_default : goal.returns-in_default
returns-in_default c =
    let there = rw (← c.self.view_is, ← c.chain.view_is) at c.requires in
    rw (← c.self.view_is, ← c.chain.view_is) (free_none _ _ _ _ c.self.invariant.0 _ there _ c.index-head.ensures c.in_default.ensures)
