use Rattle.ioam_pool.proofs.PoolLaws.{within}
use Rattle.ioam_pool.proofs.pool.Pool.held.Goals as goal

pub returns-clause-within : goal.returns-clause-within
returns-clause-within c = rw (← c.self.view_is) (within _ _ _ _ c.self.invariant.0)
