use Rattle.ioam_pool.proofs.GuideLaws.{guided_more}
use Rattle.ioam_pool.proofs.PoolLaws.{more_pool, more_seen}
use Rattle.ioam_pool.proofs.pool.Pool.add_chain.Goals as goal

pub invariant_of-self-2 : goal.invariant_of-self-2
invariant_of-self-2 c =
    let room = c.self.invariant.2 in (
      more_pool _ _ _ _ c.self.invariant.0 _ c.in_ok-add_head.ensures.items,
      guided_more _ _ _ c.self.invariant.1 _ c.in_ok-add_head.ensures.items,
      record { of_cells = room.of_cells; of_guides = room.of_guides; of_heads = c.in_ok-add_head.ensures.room },
    )

pub returns-clause-chains : goal.returns-clause-chains
returns-clause-chains c = rw (← c.self.view_is) (more_seen _ _ _ _ c.self.invariant.0 _ c.in_ok-add_head.ensures.items)
