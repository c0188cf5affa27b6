-- What IN may be, and which records of its messages are written.
use Rattle.std.specs.Prelude.{◌≡◌, ℕ, ◌<◌, ◌≤◌, List, [], ◌∷◌, ◌++◌, length}
use Rattle.ioam_base.specs.Chain.{Chain}
use Rattle.ioam_dex.specs.Record.{Record, most_records}
use Rattle.ioam_ipfix.specs.Messages.{joined, MessagePasses, IsCutMessage}
use Rattle.ioam_ipfix.specs.Reads.{Ending, Reads}
use Rattle.ioam_ipfix.specs.Sets.{Spot, spot}
use Rattle.ioam_ipfix.specs.Templates.{none_known}

-- the most messages that are read: one with templates, and one for each of the most records
abbrev pub most_messages : ℕ
most_messages = 67108865

-- no more messages than may be, and in these no more records
pub record AreWithin (messages : List (List Record)) : Type 0 where
  pub few_messages : length messages ≤ most_messages
  pub few_records : length (joined messages) ≤ most_records

-- the octets begin with these messages, all whole and without a fault, each with these records
abbrev pub BeginSo : List ℕ → List (List Record) → Spot → Type 0
BeginSo octets messages rest = Chain MessagePasses (spot none_known octets) messages rest

-- the octets are messages that end so, within the limits
pub record IsMessages (ending : Ending) (octets : List ℕ) : Type 0 where
  pub messages : List (List Record)
  pub reads : Reads octets messages ending
  pub within : AreWithin messages

-- behind as many messages as may be, with no more records than may be, stands one more that is whole and without a fault
pub record IsCrowded (octets : List ℕ) : Type 0 where
  pub messages : List (List Record)
  pub next : List Record
  pub rest : Spot
  pub begins : BeginSo octets (messages ++ next ∷ []) rest
  pub all : length messages ≡ most_messages
  pub few : length (joined messages) ≤ most_records

-- in messages that are whole and without a fault, no more than may be, stand more records than may be
pub record IsFull (octets : List ℕ) : Type 0 where
  pub messages : List (List Record)
  pub rest : Spot
  pub begins : BeginSo octets messages rest
  pub few : length messages ≤ most_messages
  pub more : most_records < length (joined messages)

-- ---- which records are written

-- those of all messages, which end so
pub record AreOf (ending : Ending) (records : List Record) (octets : List ℕ) : Type 0 where
  pub messages : List (List Record)
  pub reads : Reads octets messages ending
  pub within : AreWithin messages
  pub are : records ≡ joined messages

-- those of the messages in front of one too many
pub record AreBefore (records : List Record) (octets : List ℕ) : Type 0 where
  pub crowded : IsCrowded octets
  pub are : records ≡ joined crowded.messages

-- as many as may be, of which the last may stand in the middle of a message
pub record AreAsMany (records : List Record) (octets : List ℕ) : Type 0 where
  pub full : IsFull octets
  pub others : List Record
  pub are : joined full.messages ≡ records ++ others
  pub all : length records ≡ most_records

-- those of the messages that are whole in the octets but for those that are left; the message behind them is cut there
pub record AreWhole (left : List ℕ) (records : List Record) (octets : List ℕ) : Type 0 where
  pub handed : List ℕ
  pub parts : octets ≡ handed ++ left
  pub messages : List (List Record)
  pub rest : Spot
  pub begins : BeginSo handed messages rest
  pub cut : IsCutMessage rest.octets
  pub within : AreWithin messages
  pub are : records ≡ joined messages

-- some first ones
pub record AreFirst (records : List Record) (octets : List ℕ) : Type 0 where
  pub messages : List (List Record)
  pub rest : Spot
  pub begins : BeginSo octets messages rest
  pub others : List Record
  pub are : joined messages ≡ records ++ others
