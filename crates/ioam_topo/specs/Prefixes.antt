-- Prefixes: an address of which only the first bits count (RFC 4291 section 2.3).
use Rattle.std.specs.Prelude.{◌≡◌, ◌≤◌, ℕ, ◌-◌, ◌%◌, ◌^◌, Bool, ◌==◌}
use Rattle.ioam_topo.specs.declared.prefix.Prefix.{Prefix}

-- the bits of an address of which only so many count, the others 0
abbrev pub masked : ℕ → ℕ → ℕ
masked n bits = bits - bits % 2 ^ (128 - n)

-- the address of which only so many first bits are 1
abbrev pub mask_of : ℕ → ℕ
mask_of n = 2 ^ 128 - 2 ^ (128 - n)

-- whether an address has these bits
abbrev pub matches : Prefix → ℕ → Bool
matches p target = masked p.length target == p.bits

-- no more of its bits count than an address has, and those past them are 0
pub record IsPrefix (p : Prefix) : Type 0 where
  pub short : p.length ≤ 128
  pub rest : p.bits % 2 ^ (128 - p.length) ≡ 0
