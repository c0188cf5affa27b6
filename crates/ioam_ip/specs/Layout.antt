-- The octets of an options header that is laid out (RFC 8200 section 4.2, RFC 9486 section 3).
use Rattle.std.specs.Prelude.{◌≡◌, ℕ, zero, suc, ◌+◌, ◌-◌, ◌*◌, ◌/◌, ◌%◌, List, [], ◌∷◌, ◌++◌, if◌then◌else◌, length, replicate, slice_index, slice_set}
use Rattle.ioam_ip.specs.Findings.{is_ioam_type}
use Rattle.ioam_ip.specs.Options.{Item, AreOptions}

-- padding of so many octets: Pad1 for one, and PadN with zeros for more
abbrev pub padding : ℕ → List ℕ
padding zero = []
padding (suc zero) = 0 ∷ []
padding (suc (suc n)) = 1 ∷ n ∷ replicate n 0

-- The octets of padding between so many octets of a header and an option of this type: an IOAM
-- option stands at a multiple of 4 octets, the others stand anywhere.
abbrev pub gap_before : ℕ → ℕ → ℕ
gap_before size kind = if is_ioam_type kind then (4 - size % 4) % 4 else 0

-- the header so far, with an option behind it
abbrev pub with_option : List ℕ → ℕ → List ℕ → List ℕ
with_option laid kind body = laid ++ (padding (gap_before (length laid) kind) ++ (kind ∷ length body ∷ body))

-- the least multiple of 8 that isn't below a size
abbrev pub padded : ℕ → ℕ
padded size = (size + 7) / 8 * 8

-- the whole header: padded, with its length octet
abbrev pub finished : List ℕ → List ℕ
finished laid = slice_set (laid ++ padding (padded (length laid) - length laid)) 1 (padded (length laid) / 8 - 1)

-- the option with its place in the header
abbrev pub placed : List ℕ → ℕ → List ℕ → Item
placed laid kind body = record { kind = kind; at = length laid + gap_before (length laid) kind; body = body }

-- the second header has the options of the first
abbrev pub KeepsOptions : List ℕ → List ℕ → Type 0
KeepsOptions old new = (os : List Item) → AreOptions old os → AreOptions new os

-- the second header has the options of the first, and then this one
abbrev pub AddsOption : List ℕ → List ℕ → Item → Type 0
AddsOption old new item = (os : List Item) → AreOptions old os → AreOptions new (os ++ item ∷ [])

-- the header has the least multiple of 8 octets that isn't below a size, and its length octet says
-- so: units of 8 octets past the first 8
pub record IsSized (head : List ℕ) (size : ℕ) : Type 0 where
  pub length_is : length head ≡ padded size
  pub said : (slice_index head 1 + 1) * 8 ≡ length head
