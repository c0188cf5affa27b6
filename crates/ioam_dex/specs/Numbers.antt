-- The Flow ID and the Sequence Number of direct export (RFC 9326 section 3.2): each is there exactly
-- where the extension flags have it, the Flow ID first.
use Rattle.std.specs.Prelude.{ℕ, ◌+◌, ◌/◌, ◌%◌, Bool, ◌==◌, if◌then◌else◌, List, Option, Some, None}
use Rattle.ioam_base.specs.Octets.{u32_at}

-- bit 0, the most significant
unfoldable pub has_flow : ℕ → Bool
has_flow ext = ext / 128 % 2 == 1

-- bit 1
unfoldable pub has_seq : ℕ → Bool
has_seq ext = ext / 64 % 2 == 1

-- so many octets where a field is there
abbrev pub four_where : Bool → ℕ
four_where there = if there then 4 else 0

-- the octets of the two
abbrev pub numbers_size : ℕ → ℕ
numbers_size ext = four_where (has_flow ext) + four_where (has_seq ext)

-- the number that is read at a place, where it is there
abbrev pub u32_where : Bool → List ℕ → ℕ → Option ℕ
u32_where there octets at = if there then Some (u32_at octets at) else None
