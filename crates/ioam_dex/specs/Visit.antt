-- The visit that an export record of version 2 tells: the time at the node, 64 bits, and the interface by
-- which the packet came, 32 bits. A record of version 1 tells none.
use Rattle.std.specs.Prelude.{ℕ, ◌+◌, ◌≡◌, ◌<◌, ◌⊎◌, Bool, ◌==◌, if◌then◌else◌, List, [], ◌++◌, Option, Some, None, IfSome}
use Rattle.ioam_base.specs.Octets.{u32_at, u64_at}
use Rattle.ioam_base.specs.Words.{four_octets, eight_octets}

-- the two versions
abbrev pub IsVersion : ℕ → Type 0
IsVersion version = (version ≡ 1) ⊎ (version ≡ 2)

-- a record of this version tells a visit
abbrev pub has_visit : ℕ → Bool
has_visit version = version == 2

-- the version by what is told
abbrev pub version_of : Option (ℕ × ℕ) → ℕ
version_of None = 1
version_of (Some visit) = 2

-- the octets of a visit, where it is there
abbrev pub visit_octets : Option (ℕ × ℕ) → List ℕ
visit_octets None = []
visit_octets (Some visit) = eight_octets visit.0 ++ four_octets visit.1

-- so many octets where a visit is there
abbrev pub twelve_where : Bool → ℕ
twelve_where there = if there then 12 else 0

-- its numbers are within their fields
abbrev pub IsVisitBelow : Option (ℕ × ℕ) → Type 0
IsVisitBelow visit = IfSome visit (λ v. (v.0 < 18446744073709551616) × (v.1 < 4294967296))

-- the visit that is read at a place, where it is there
abbrev pub visit_where : Bool → List ℕ → ℕ → Option (ℕ × ℕ)
visit_where there octets at = if there then Some (u64_at octets at, u32_at octets (at + 8)) else None
