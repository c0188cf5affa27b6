-- The octets of a trace that are compared part by part.
use Rattle.std.specs.Prelude.{◌≡◌, ℕ, List, take, drop, slice_range}
use Rattle.ioam_base.specs.Octets.{u16_at}

-- the new octets have this word of NodeLen, Flags and RemainingLen, and are else the old ones but for what stands between
-- two places
pub record AreAlike (old new : List ℕ) (word start end : ℕ) : Type 0 where
  pub front : take 2 new ≡ take 2 old
  pub number : u16_at new 2 ≡ word
  pub middle : slice_range new 4 start ≡ slice_range old 4 start
  pub rest : drop end new ≡ drop end old
