-- A reader of a capture of either form, as its callers see it.
use Rattle.std.specs.Prelude.{⊤, ℕ, ◌+◌, ◌<◌, List, [], length}
use Rattle.ioam_pcap.specs.Reading as classic
use Rattle.ioam_pcap.specs.Reader as classic_reader
use Rattle.ioam_ng.specs.Reading as ng

-- fewer than four octets were fed, so that the form isn't known; or it is the reader of a form
pub data Reading : Type 0 where
  Front : List ℕ → Reading
  Classic : classic.Reading → Reading
  Ng : ng.Reading → Reading

-- the form is known, and is pcapng
abbrev pub HasBlocks : Reading → Type 0
HasBlocks (Front held) = ⊥
HasBlocks (Classic reader) = ⊥
HasBlocks (Ng reader) = ⊤

-- the octets that were fed and not yet taken
abbrev pub pending : Reading → List ℕ
pending (Front held) = held
pending (Classic reader) = reader.pending
pending (Ng reader) = reader.pending

-- the place in the capture of the first of them
abbrev pub start : Reading → ℕ
start (Front held) = 0
start (Classic reader) = reader.start
start (Ng reader) = reader.start

-- how many octets it was fed in all
abbrev pub fed : Reading → ℕ
fed reader = start reader + length (pending reader)

-- a reader that was fed nothing
abbrev pub fresh : Reading
fresh = Front []

-- the octets that a reader holds back, where more of them are needed, are fewer than these: those of
-- the form's greatest record or block
abbrev pub most_held : Reading → ℕ
most_held (Front held) = 4
most_held (Classic reader) = 262160
most_held (Ng reader) = 16777216

-- a reader holds back fewer octets than the greatest record or block of its form has
abbrev pub HoldsFew : Reading → Type 0
HoldsFew reader = length (pending reader) < most_held reader

-- how many octets it keeps
abbrev pub held : Reading → ℕ
held (Front octets) = length octets
held (Classic reader) = classic_reader.held reader
held (Ng reader) = ng.held reader
