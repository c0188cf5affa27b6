-- Prefixes: an address, `/` and a prefix length, which is how many of its bits count (RFC 4291 section 2.3).
use Rattle.std.specs.Prelude.{◌≡◌, ◌≤◌, ℕ, ◌+◌, ◌==◌, List, ◌∷◌, ◌++◌, decimal, take, drop, position, Option, Some, None, Result}
use Rattle.toml.specs.Data.{Data}
use Rattle.ioam_topo_values.specs.declared.why.Why.{Why}
use Rattle.ioam_base.specs.Decimal.{decimal_below}
use Rattle.ioam_topo.specs.declared.prefix.Prefix.{Prefix}
use Rattle.ioam_topo.specs.Prefixes.{masked}
use Rattle.ioam_topo_values.specs.Reads.{◌▷◌}
use Rattle.ioam_topo_values.specs.Texts.{text}
use Rattle.ioam_topo_values.specs.Addresses.{address_of, ranged, Spells}

-- the prefix length that a text spells
abbrev pub length_of : List ℕ → Option ℕ
length_of s = decimal_below 129 s

-- a prefix of an address and a length that were read, with the bits beyond the length cleared; none where either wasn't
abbrev pub prefix_of : Option ℕ → Option ℕ → Option Prefix
prefix_of (Some bits) (Some n) = Some (record { bits = masked n bits; length = n })
prefix_of _ _ = None

-- the parts before and behind the first `/`
abbrev pub parted : Option ℕ → List ℕ → Option Prefix
parted None s = None
parted (Some i) s = prefix_of (address_of (take i s)) (length_of (drop (i + 1) s))

-- the place of the first `/` of a text
abbrev pub slash_at : List ℕ → Option ℕ
slash_at s = position (λ b. b == 47) s

-- a prefix, of a text that spells one, or why there is none
abbrev pub prefix : Data → Result Prefix Why
prefix d = text d ▷ (λ s. ranged (parted (slash_at s) s))

-- a text is this prefix length, in decimal digits without a zero in front save `0` itself
abbrev pub IsLength : List ℕ → ℕ → Type 0
IsLength s n = (n ≤ 128) × (s ≡ decimal n)

-- a text spells a prefix: an address, then `/`, then the prefix's length, and the prefix has the bits of that address within its length
pub record SpellsPrefix (s : List ℕ) (p : Prefix) : Type 0 where
  pub before : List ℕ
  pub bits : ℕ
  pub behind : List ℕ
  pub slash : s ≡ before ++ 47 ∷ behind
  pub spells : Spells before bits
  pub is_length : IsLength behind p.length
  pub is : p.bits ≡ masked p.length bits
