-- A reader of messages as its callers see it.
use Rattle.std.specs.Prelude.{ℕ, ◌≡◌, ◌+◌, ◌<◌, ◌≤◌, Bool, List, [], ◌∷◌, ◌++◌, length}
use Rattle.ioam_dex.specs.Record.{Record}
use Rattle.ioam_ipfix.specs.Templates.{none_known}
use Rattle.ioam_ipfix.specs.Sets.{Spot, spot}

-- the templates seen in the messages taken so far, and how many messages these are; the records of the last one that
-- were not yet given; the place in the input of the next message, and the octets from there on that were fed; how many
-- octets of messages that were taken it still keeps; and how many of these are those of the message whose records are due
pub record Reading : Type 0 where
  pub known : List Bool
  pub messages : ℕ
  pub due : List Record
  pub start : ℕ
  pub pending : List ℕ
  pub given : ℕ
  pub owed : ℕ

-- where its next message is due
abbrev pub place_of : Reading → Spot
place_of reader = spot reader.known reader.pending

-- a reader that was fed nothing
abbrev pub fresh : Reading
fresh = record { known = none_known; messages = 0; due = []; start = 0; pending = []; given = 0; owed = 0 }

-- how many octets it was fed in all
abbrev pub fed : Reading → ℕ
fed reader = reader.start + length reader.pending

-- how many octets it keeps
abbrev pub held : Reading → ℕ
held reader = reader.given + length reader.pending

-- so many octets while a record is due, and else none
abbrev pub while_due : List Record → ℕ → ℕ
while_due [] size = 0
while_due (x ∷ due) size = size

-- a record was given, behind which these are due: its message is owed no longer where it was the last
abbrev pub with_due : List Record → Reading → Reading
with_due due reader = record reader { due = due; owed = while_due due reader.owed }

-- a piece more was fed: of the messages that were taken none is kept further but the one whose records are due
abbrev pub with_piece : List ℕ → Reading → Reading
with_piece piece reader = record reader { pending = reader.pending ++ piece; given = reader.owed }

-- what is owed is among the octets that it keeps: those of a message, of 65,535 at most, or none where no record is due
pub record OwesFew (reader : Reading) : Type 0 where
  pub few : reader.owed < 65536
  pub among : reader.owed ≤ reader.given
  pub none : reader.due ≡ [] → reader.owed ≡ 0
