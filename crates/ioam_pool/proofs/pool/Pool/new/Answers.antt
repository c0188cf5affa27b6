use Rattle.std.proofs.Common.{sym, ◌∙◌, arith}
use Rattle.ioam_pool.proofs.GuideLaws.{guided_none}
use Rattle.ioam_pool.proofs.PoolLaws.{new_pool}
use Rattle.ioam_pool.proofs.pool.Pool.new.Goals as goal

pub invariant_of-pool : goal.invariant_of-pool
invariant_of-pool c = (
  new_pool _ _ c.new.ensures.items c.new-2.ensures.items,
  rw c.new-3.ensures.items (guided_none _ _),
  record {
    of_cells = c.new.ensures.capacity ∙ sym c.new.ensures.len;
    of_guides = omega (arith, c.new-3.ensures.capacity);
    of_heads = omega (arith, c.new-2.ensures.capacity);
  },
)
