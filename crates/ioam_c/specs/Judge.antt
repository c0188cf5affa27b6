-- Whether a node of which this is known may have made the octets of one trace of those of another.
use Rattle.std.specs.Prelude.{◌≡◌, ℕ, ◌<◌, ◌^◌, List, length}
use Rattle.ioam_audit.specs.Becomes.{MayBecome}

-- the octets are as many, and the node, whose id has 56 bits, may have made them
pub record MayMake (hops id inward : ℕ) (old new : List ℕ) : Type 0 where
  pub id_below : id < 2 ^ 56
  pub same : length new ≡ length old
  pub becomes : MayBecome hops id inward old new
