-- The hop limit of a packet, its octet 7, lowered (RFC 8200 section 3).
use Rattle.std.specs.Prelude.{ℕ, ◌-◌, List, slice_index, slice_set}

-- the packet with its hop limit so many less, all else as it was
abbrev pub lowered : ℕ → List ℕ → List ℕ
lowered count packet = slice_set packet 7 (slice_index packet 7 - count)
