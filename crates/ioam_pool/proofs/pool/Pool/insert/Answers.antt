use Rattle.std.proofs.Common.{refl, sym, ◌∙◌, arith}
use Rattle.ioam_pool.proofs.GuideLaws.{guides_on}
use Rattle.ioam_pool.proofs.PoolLaws.{head_is, ends_at, chain_order, kept_guided, swapped_guided, tied_in, gives, repeats, out_is, replaces, not_repeated, swapped_pool, swapped_seen, swapped_held, no_repeat, no_replace, full, first_in, before_in, kept_pool, kept_seen, kept_held, kept_room, kept_few, still_room}
use Rattle.ioam_pool.proofs.pool.Pool.insert.Goals as goal

pub seat_with_guide-requires-clause-ends : goal.seat_with_guide-requires-clause-ends
seat_with_guide-requires-clause-ends c =
    let there = rw (← c.self.view_is, ← c.chain.view_is) at c.requires in
    rw c.deref.ensures.value (ends_at _ _ _ _ c.self.invariant.0 _ there _ c.index-head.ensures)

pub seat_with_guide-requires-clause-in_order : goal.seat_with_guide-requires-clause-in_order
seat_with_guide-requires-clause-in_order c =
    let there = rw (← c.self.view_is, ← c.chain.view_is) at c.requires in
    rw c.deref.ensures.value (chain_order _ _ _ _ c.self.invariant.0 _ there _ c.index-head.ensures)

pub seat_with_guide-requires-clause-guided : goal.seat_with_guide-requires-clause-guided
seat_with_guide-requires-clause-guided c =
    let there = rw (← c.self.view_is, ← c.chain.view_is) at c.requires in
    rw c.deref.ensures.value
    (guides_on _ _ _ c.self.invariant.1 _ _ (head_is _ _ _ _ c.self.invariant.0 _ there _ c.index-head.ensures))

pub invariant_of-self-in_default : goal.invariant_of-self-in_default
invariant_of-self-in_default c =
    let there = rw (← c.self.view_is, ← c.chain.view_is) at c.requires in
    let guides = rw c.deref.ensures.value at c.in-Behind.ensures.guides in (
      c.self.invariant.0,
      guides _ (head_is _ _ _ _ c.self.invariant.0 _ there _ c.index-head.ensures) c.self.invariant.1,
      still_room _ _ _ _ _ _ _ _ _ _ c.self.invariant.2 refl refl refl c.in-Behind.ensures.room refl,
    )

pub returns-in_default-clause-inserts : goal.returns-in_default-clause-inserts
returns-in_default-clause-inserts c =
    let there = rw (← c.self.view_is, ← c.chain.view_is) at c.requires in
    let gap = rw c.deref.ensures.value at c.in-Behind.ensures.seat in
    rw (← c.self.view_is, ← c.chain.view_is) (no_repeat _ _ _ _ c.self.invariant.0 _ there _ c.index-head.ensures _ _ gap, no_replace _ _ _ _ c.self.invariant.0 _ there _ c.index-head.ensures _ _ gap, full _ _ _ _ c.self.invariant.0 c.in_default.is, refl, refl)

pub index-requires : goal.index-requires
index-requires c = let inside = first_in _ _ _ _ c.self.invariant.0 _ c.in-Some.is in omega (arith, c.self.inside.cells.ok)

pub link_in-first-requires-clause-inside : goal.link_in-first-requires-clause-inside
link_in-first-requires-clause-inside c = let inside = first_in _ _ _ _ c.self.invariant.0 _ c.in-Some.is in omega (arith, c.self.inside.cells.ok)

pub link_in-first-requires-clause-chained : goal.link_in-first-requires-clause-chained
link_in-first-requires-clause-chained c =
    let there = rw (← c.self.view_is, ← c.chain.view_is) at c.requires in
    let gap = rw c.deref.ensures.value at c.in-Behind.ensures.seat in
    λ b is. let inside = before_in _ _ _ _ c.self.invariant.0 _ there _ c.index-head.ensures _ _ gap b is in omega (arith, c.self.inside.cells.ok)

pub overflow_add-self : goal.overflow_add-self
overflow_add-self c =
    let there = rw (← c.self.view_is, ← c.chain.view_is) at c.requires in
    let gap = rw c.deref.ensures.value at c.in-Behind.ensures.seat in
    let few = kept_few _ _ _ _ c.self.invariant.0 _ there _ c.index-head.ensures _ _ gap _ c.in-Some.is in
    omega arith

pub invariant_of-self-in-Behind : goal.invariant_of-self-in-Behind
invariant_of-self-in-Behind c =
    let there = rw (← c.self.view_is, ← c.chain.view_is) at c.requires in
    let gap = rw c.deref.ensures.value at c.in-Behind.ensures.seat in
    let guides = rw c.deref.ensures.value at c.in-Behind.ensures.guides in (
      kept_pool _ _ _ _ c.self.invariant.0 _ there _ c.index-head.ensures _ _ gap _ c.in-Some.is _ c.index.ensures
          _ c.link_in-first.ensures.cells _ c.link_in-first.ensures.head,
      kept_guided _ _ _ _ c.self.invariant.0 _ there _ c.index-head.ensures _ _ gap _ c.in-Some.is _ c.index.ensures
          _ c.link_in-first.ensures.cells _ c.link_in-first.ensures.head _ (guides _ (head_is _ _ _ _ c.self.invariant.0 _ there _ c.index-head.ensures) c.self.invariant.1),
      still_room _ _ _ _ _ _ _ _ _ _ c.self.invariant.2 c.link_in-first.ensures.len refl c.link_in-first.ensures.room c.in-Behind.ensures.room refl,
    )

pub returns-in-Some-clause-inserts : goal.returns-in-Some-clause-inserts
returns-in-Some-clause-inserts c =
    let there = rw (← c.self.view_is, ← c.chain.view_is) at c.requires in
    let gap = rw c.deref.ensures.value at c.in-Behind.ensures.seat in
    let seen = kept_seen _ _ _ _ c.self.invariant.0 _ there _ c.index-head.ensures _ _ gap _ c.in-Some.is _ c.index.ensures
    _ c.link_in-first.ensures.cells _ c.link_in-first.ensures.head in
    rw (← c.self.view_is, ← c.chain.view_is) (
      no_repeat _ _ _ _ c.self.invariant.0 _ there _ c.index-head.ensures _ _ gap,
      no_replace _ _ _ _ c.self.invariant.0 _ there _ c.index-head.ensures _ _ gap,
      kept_room _ _ _ _ c.self.invariant.0 _ there _ c.index-head.ensures _ _ gap _ c.in-Some.is,
      seen,
    )

pub gives_way-requires : goal.gives_way-requires
gives_way-requires c =
    let there = rw (← c.self.view_is, ← c.chain.view_is) at c.requires in
    let tie = rw c.deref.ensures.value at c.in-Tied.ensures.seat in
    rw c.deref-in-Tied.ensures.value (tied_in _ _ _ _ c.self.invariant.0 _ there _ c.index-head.ensures _ _ tie)

pub swap_item-requires : goal.swap_item-requires
swap_item-requires c =
    let there = rw (← c.self.view_is, ← c.chain.view_is) at c.requires in
    let tie = rw c.deref.ensures.value at c.in-Tied.ensures.seat in
    let inside = tied_in _ _ _ _ c.self.invariant.0 _ there _ c.index-head.ensures _ _ tie in
    omega (arith, c.self.inside.cells.ok)

pub invariant_of-self : goal.invariant_of-self
invariant_of-self c =
    let there = rw (← c.self.view_is, ← c.chain.view_is) at c.requires in
    let tie = rw c.deref.ensures.value at c.in-Tied.ensures.seat in
    let guides = rw c.deref.ensures.value at c.in-Tied.ensures.guides in
    let so = rw c.deref-in-Tied.ensures.value at (sym c.gives_way.ensures ∙ c.if-gives_way.true) in
    let both = gives _ _ so in
    rw c.swap_item.ensures.cells (
      swapped_pool _ _ _ _ c.self.invariant.0 _ there _ c.index-head.ensures _ _ tie both.0 both.1,
      swapped_guided _ _ _ _ c.self.invariant.0 _ there _ c.index-head.ensures _ _ tie both.0 both.1 _ (guides _ (head_is _ _ _ _ c.self.invariant.0 _ there _ c.index-head.ensures) c.self.invariant.1),
      still_room _ _ _ _ _ _ _ _ _ _ c.self.invariant.2 c.swap_item.ensures.len refl c.swap_item.ensures.room c.in-Tied.ensures.room refl,
    )

pub invariant_of-self-else-gives_way : goal.invariant_of-self-else-gives_way
invariant_of-self-else-gives_way c =
    let there = rw (← c.self.view_is, ← c.chain.view_is) at c.requires in
    let guides = rw c.deref.ensures.value at c.in-Tied.ensures.guides in (
      c.self.invariant.0,
      guides _ (head_is _ _ _ _ c.self.invariant.0 _ there _ c.index-head.ensures) c.self.invariant.1,
      still_room _ _ _ _ _ _ _ _ _ _ c.self.invariant.2 refl refl refl c.in-Tied.ensures.room refl,
    )

pub returns-then-gives_way-clause-inserts : goal.returns-then-gives_way-clause-inserts
returns-then-gives_way-clause-inserts c =
    let there = rw (← c.self.view_is, ← c.chain.view_is) at c.requires in
    let tie = rw c.deref.ensures.value at c.in-Tied.ensures.seat in
    let so = rw c.deref-in-Tied.ensures.value at (sym c.gives_way.ensures ∙ c.if-gives_way.true) in
    let both = gives _ _ so in
    rw (← c.self.view_is, ← c.chain.view_is, c.swap_item.ensures.cells) (
      not_repeated _ _ _ _ c.self.invariant.0 _ there _ c.index-head.ensures _ _ tie both.0 both.1,
      replaces _ _ _ _ c.self.invariant.0 _ there _ c.index-head.ensures _ _ tie both.0 both.1,
      c.swap_item.ensures.item ∙ out_is _ _ _ _ c.self.invariant.0 _ there _ c.index-head.ensures _ _ tie both.0 both.1,
      swapped_seen _ _ _ _ c.self.invariant.0 _ there _ c.index-head.ensures _ _ tie both.0 both.1,
    )

pub returns-else-gives_way-clause-inserts : goal.returns-else-gives_way-clause-inserts
returns-else-gives_way-clause-inserts c =
    let there = rw (← c.self.view_is, ← c.chain.view_is) at c.requires in
    let tie = rw c.deref.ensures.value at c.in-Tied.ensures.seat in
    let so = rw c.deref-in-Tied.ensures.value at (sym c.gives_way.ensures ∙ c.if-gives_way.false) in
    rw (← c.self.view_is, ← c.chain.view_is) (repeats _ _ _ _ c.self.invariant.0 _ there _ c.index-head.ensures _ _ tie so, refl, refl)

pub returns-then-gives_way-clause-held : goal.returns-then-gives_way-clause-held
returns-then-gives_way-clause-held c =
    let there = rw (← c.self.view_is, ← c.chain.view_is) at c.requires in
    let tie = rw c.deref.ensures.value at c.in-Tied.ensures.seat in
    let so = rw c.deref-in-Tied.ensures.value at (sym c.gives_way.ensures ∙ c.if-gives_way.true) in
    let both = gives _ _ so in
    let held = swapped_held _ _ _ _ c.self.invariant.0 _ there _ c.index-head.ensures _ _ tie both.0 both.1 in
    rw (← c.self.view_is, c.swap_item.ensures.cells) (held ∙ omega arith)

pub returns-in-Some-clause-held : goal.returns-in-Some-clause-held
returns-in-Some-clause-held c =
    let there = rw (← c.self.view_is, ← c.chain.view_is) at c.requires in
    let gap = rw c.deref.ensures.value at c.in-Behind.ensures.seat in
    rw (← c.self.view_is) (kept_held _ _ _ _ c.self.invariant.0 _ there _ c.index-head.ensures _ _ gap _ c.in-Some.is _ c.index.ensures
    _ c.link_in-first.ensures.cells _ c.link_in-first.ensures.head)
