-- How long options headers are, by the types and the lengths of their options alone.
use Rattle.std.specs.Prelude.{ℕ, ◌+◌, List, [], ◌∷◌, length}
use Rattle.ioam_ip.specs.Layout.{gap_before, padded}
use Rattle.ioam_ip.specs.Laid.{Part}

-- an option's type and how many octets its data has
pub record Sized : Type 0 where
  pub kind : ℕ
  pub size : ℕ

-- the type of an option to be laid out, and how many octets its data has
abbrev pub sized : Part → Sized
sized part = record { kind = part.kind; size = length part.body }

-- where an option ends that stands behind so many octets of its header: padding, type, length, data
abbrev pub size_with : ℕ → ℕ → ℕ → ℕ
size_with size kind amount = size + gap_before size kind + 2 + amount

-- where options behind so many octets end
abbrev pub options_end : ℕ → List Sized → ℕ
options_end size [] = size
options_end size (option ∷ options) = options_end (size_with size option.kind option.size) options

-- the octets of the whole header, padded to a multiple of 8; none without options
abbrev pub header_size : List Sized → ℕ
header_size [] = 0
header_size (option ∷ options) = padded (options_end 2 (option ∷ options))
