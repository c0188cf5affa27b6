use Rattle.std.proofs.Common.{inl, arith}
use Rattle.ioam_pool.proofs.SeatLaws.{Ends-few}
use Rattle.ioam_pool.proofs.walking.Items.left.Goals as goal

pub count-requires-clause-fits : goal.count-requires-clause-fits
count-requires-clause-fits c = let few = Ends-few _ _ c.self.invariant in inl (omega (arith, c.self.told))
