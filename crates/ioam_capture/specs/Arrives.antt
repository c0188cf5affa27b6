-- The records of several captures in the order in which they are taken, as far as the octets that
-- were handed out show them.
use Rattle.std.specs.Prelude.{◌≡◌, ℕ, ◌⊎◌, Bool, false, List, ◌++◌}
use Rattle.std.specs.List.{AllZip}
use Rattle.ioam_capture.specs.Merge.{Stream, Arrival, TakesAll}
use Rattle.ioam_capture.specs.Streams.{ShowsSo}
use Rattle.ioam_capture.specs.declared.turns.Turn.{Turn}

-- as much of a capture as was handed out, and whether it has ended there
pub record Handed : Type 0 where
  pub octets : List ℕ
  pub ended : Bool

-- it shows this, of which nothing was taken
abbrev pub IsStream : Handed → Stream → Type 0
IsStream capture stream = ShowsSo capture.octets capture.ended stream.records stream.ending

-- These are all the records that can be taken of the captures, and the turn behind them is this:
-- all have ended; or one is faulty where its next record is needed; or, of captures that have not
-- all ended, one doesn't show its next record.
pub record Arrives (captures : List Handed) (taken : List Arrival) (last : Turn) : Type 0 where
  pub streams : List Stream
  pub shown : AllZip IsStream captures streams
  pub all : TakesAll streams taken last

-- more was handed out of a capture that had not ended, or nothing has changed
abbrev pub HandsOn : Handed → Handed → Type 0
HandsOn old new = ((old.ended ≡ false) × ((more : List ℕ) × (new.octets ≡ old.octets ++ more))) ⊎ (new ≡ old)
