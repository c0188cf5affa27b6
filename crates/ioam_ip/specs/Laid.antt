-- The octets of an options header that holds these options (RFC 8200 section 4.2, RFC 9486 section 3).
use Rattle.std.specs.Prelude.{⊤, ℕ, ◌+◌, ◌-◌, ◌/◌, ◌<◌, List, [], ◌∷◌, ◌++◌, length}
use Rattle.ioam_ip.specs.Layout.{padding, gap_before, padded, with_option}
use Rattle.ioam_ip.specs.Options.{Item}

-- an option's type and its data
pub record Part : Type 0 where
  pub kind : ℕ
  pub body : List ℕ

-- the place of an option behind so many octets of its header, and the place behind it
abbrev pub place_of : ℕ → Part → ℕ
place_of size part = size + gap_before size part.kind

-- the place behind an option that follows so many octets of its header: its type, its length and its data are passed
abbrev pub behind_part : ℕ → Part → ℕ
behind_part size part = place_of size part + 2 + length part.body

-- an option with the padding in front of it
abbrev pub part_octets : ℕ → Part → List ℕ
part_octets size part = padding (gap_before size part.kind) ++ (part.kind ∷ length part.body ∷ part.body)

-- these options behind so many octets, and the padding behind them
abbrev pub parts_octets : ℕ → List Part → List ℕ
parts_octets size [] = padding (padded size - size)
parts_octets size (part ∷ parts) = part_octets size part ++ parts_octets (behind_part size part) parts

-- how many octets they end at
abbrev pub parts_end : ℕ → List Part → ℕ
parts_end size [] = padded size
parts_end size (part ∷ parts) = parts_end (behind_part size part) parts

-- the header: the value that names what follows it, its length in units of 8 octets past the first 8, the
-- options
abbrev pub header_of : ℕ → List Part → List ℕ
header_of next parts = next ∷ (parts_end 2 parts / 8 - 1) ∷ parts_octets 2 parts

-- an options header stands only where it has an option
abbrev pub header_if : ℕ → List Part → List ℕ
header_if next [] = []
header_if next (part ∷ parts) = header_of next (part ∷ parts)

-- the value that names it, or what stands there without it
abbrev pub value_if : ℕ → List Part → ℕ → ℕ
value_if value [] next = next
value_if value (part ∷ parts) next = value

-- the options with their places
abbrev pub items_of : ℕ → List Part → List Item
items_of size [] = []
items_of size (part ∷ parts) =
    record { kind = part.kind; at = place_of size part; body = part.body } ∷ items_of (behind_part size part) parts

-- each option with its data changed
abbrev pub stepped : (ℕ → List ℕ → List ℕ) → Part → Part
stepped step part = record { kind = part.kind; body = step part.kind part.body }

-- each is an option and no padding
abbrev pub AreParts : List Part → Type 0
AreParts [] = ⊤
AreParts (part ∷ parts) = (1 < part.kind) × AreParts parts

-- options behind what was laid out
abbrev pub laid_with : List ℕ → List Part → List ℕ
laid_with laid [] = laid
laid_with laid (part ∷ parts) = laid_with (with_option laid part.kind part.body) parts
