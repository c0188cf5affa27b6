-- Octets that are fed in pieces, and taken from the front.
use Rattle.std.specs.Prelude.{ℕ, ◌+◌, List, [], ◌++◌, length, take, drop}

-- the octets that were taken since octets were fed last; the place, among all that were fed, of the first that
-- was not yet taken; and the octets from there on
pub record Kept : Type 0 where
  pub given : List ℕ
  pub start : ℕ
  pub pending : List ℕ

-- nothing was fed
abbrev pub fresh : Kept
fresh = record { given = []; start = 0; pending = [] }

-- how many octets were fed in all
abbrev pub fed : Kept → ℕ
fed kept = kept.start + length kept.pending

-- so many of the pending octets were taken
abbrev pub passed : ℕ → Kept → Kept
passed count kept = record { given = kept.given ++ take count kept.pending; start = kept.start + count; pending = drop count kept.pending }

-- a piece more was fed: none of the octets that were taken is kept further
abbrev pub with_piece : List ℕ → Kept → Kept
with_piece piece kept = record { given = []; start = kept.start; pending = kept.pending ++ piece }
