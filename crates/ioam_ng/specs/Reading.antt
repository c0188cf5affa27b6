-- A reader of a capture as its callers see it.
use Rattle.std.specs.Prelude.{ℕ, ◌+◌, List, [], length}
use Rattle.ioam_ng.specs.Front.{Known}
use Rattle.ioam_ng.specs.Blocks.{Place, nothing}

-- what is known where a block is due; the place of that block in the capture; the octets from there on that were fed;
-- and how many octets that it took it still keeps
pub record Reading : Type 0 where
  pub known : Known
  pub start : ℕ
  pub pending : List ℕ
  pub given : ℕ

-- where its next block is due
abbrev pub place_of : Reading → Place
place_of reader = record { known = reader.known; octets = reader.pending }

-- a reader that was fed nothing
abbrev pub fresh : Reading
fresh = record { known = nothing; start = 0; pending = []; given = 0 }

-- how many octets it was fed in all
abbrev pub fed : Reading → ℕ
fed reader = reader.start + length reader.pending

-- how many octets it keeps
abbrev pub held : Reading → ℕ
held reader = reader.given + length reader.pending
