-- Whole numbers.
use Rattle.std.specs.Prelude.{ℕ, ℤ, pos, negsuc, nat_le, ◌&&◌, Result, Ok, Err, if◌then◌else◌}
use Rattle.toml.specs.Data.{Data, integer}
use Rattle.ioam_topo_values.specs.declared.why.Why.{Why}
use Rattle.ioam_topo_values.specs.declared.why.Why.TheVariants.{Kind, Range}
use Rattle.ioam_topo_values.specs.Reads.{◌▷◌}

-- a whole number, of either sign
abbrev pub whole : Data → Result ℤ Why
whole (integer z) = Ok z
whole _ = Err Kind

-- a number between two bounds, both allowed
abbrev pub within : ℕ → ℕ → ℤ → Result ℕ Why
within low high (pos n) = if nat_le low n && nat_le n high then Ok n else Err Range
within low high (negsuc n) = Err Range

-- a whole number between two bounds, both allowed, or why there is none
abbrev pub number : ℕ → ℕ → Data → Result ℕ Why
number low high d = whole d ▷ within low high
