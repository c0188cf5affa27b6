-- What a walk along the chain of a packet tells.
use Rattle.std.specs.Prelude.{ℕ, List, Bool, true, false, IsTrue, Option, ◌↔◌}
use Rattle.ioam_ip.specs.Chain.{EndsWith, IsSound, BadAt}
use Rattle.ioam_ip.specs.ChainOptions.{CarriesIoam, LimitOf}
use Rattle.ioam_ip.specs.declared.answer.Walk.{Walk}
use Rattle.ioam_ip.specs.declared.answer.Walk.TheVariants.{Whole, Bad}

-- what the walk along a sound packet found
pub record IsWhole (p : List ℕ) (ioam : Bool) (upper at : ℕ) (limit : Option ℕ) : Type 0 where
  pub sound : IsSound p
  pub ends : EndsWith p upper at
  pub carries : IsTrue ioam ↔ CarriesIoam p
  pub first : LimitOf p limit

-- what a walk answered: what it found along a sound packet, or the first break
abbrev pub Tells : List ℕ → Walk → Type 0
Tells p (Whole ioam upper at limit) = IsWhole p ioam upper at limit
Tells p (Bad at) = BadAt p at × (IsSound p → ⊥)

-- whether a walk found the chain whole
abbrev pub is_whole : Walk → Bool
is_whole (Whole ioam upper at limit) = true
is_whole (Bad at) = false
