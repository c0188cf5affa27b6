-- What a reader stands for, and what its steps tell of the octets that it was fed.
use Rattle.std.specs.Prelude.{◌≡◌, ⊤, ℕ, ◌+◌, ◌<◌, ◌≤◌, ◌⊎◌, List, [], ◌∷◌, ◌++◌, length, Option, Some, None}
use Rattle.std.specs.Io.BufRead.{Rests}
use Rattle.std.specs.Borrow.{Fml, MutBor}
use Rattle.ioam_dex.specs.Record.{Record, IsRecord, record_of}
use Rattle.ioam_ipfix.specs.declared.fault.IpfixFault.{IpfixFault}
use Rattle.ioam_ipfix.specs.declared.reader.Found.{Found}
use Rattle.ioam_ipfix.specs.declared.reader.Found.TheVariants as found
use Rattle.ioam_ipfix.specs.declared.reader.IpfixStep.{IpfixStep}
use Rattle.ioam_ipfix.specs.declared.reader.IpfixStep.TheVariants.{Export, More, Bad}
use Rattle.ioam_ipfix.specs.contracts.reader.IpfixReader.{the_row}
use Rattle.ioam_base.specs.Chain.{Chain}
use Rattle.ioam_ipfix.specs.Templates.{none_known}
use Rattle.ioam_ipfix.specs.Sets.{spot}
use Rattle.ioam_ipfix.specs.Messages.{joined, MessagePasses, IsCutMessage, IpfixOf}
use Rattle.ioam_ipfix.specs.Faults.{HasMessageFault}
use Rattle.ioam_ipfix.specs.Reads.{Ending, Whole, Faulty, Reads, ReadsOnly}
use Rattle.ioam_ipfix.specs.Reading.{Reading, OwesFew, place_of, fed, held, with_due}

-- no record is due, or those that are due are of the last message
abbrev pub AreOfLast : List (List Record) → List Record → Type 0
AreOfLast messages due = (due ≡ []) ⊎ ((earlier : List (List Record)) × (last : List Record) × (messages ≡ earlier ++ last ∷ []) × (length due ≤ length last))

-- A reader was fed these octets in all, in whatever pieces, and has given these records. It has taken messages, one after the other;
-- their records are those that it gave and those that are due. It keeps the octets of the last message while a record of it is due.
pub record Stands (reader : Reading) (octets : List ℕ) (given : List Record) : Type 0 where
  pub messages : List (List Record)
  pub leads : Chain MessagePasses (spot none_known octets) messages (place_of reader)
  pub count : reader.messages ≡ length messages
  pub inside : fed reader ≡ length octets
  pub gives : joined messages ≡ given ++ reader.due
  pub late : AreOfLast messages reader.due
  pub few : OwesFew reader

-- all records of the messages taken were given, and what is due then is not whole and has no fault: more octets have to
-- be fed, or the input ends; fewer octets than a message can have are left
abbrev pub Waits : Reading → Type 0
Waits reader = (reader.due ≡ []) × IsCutMessage reader.pending × (length reader.pending < 65535)

-- all were given, and the message that is due then has this fault
abbrev pub IsFaulty : Reading → IpfixFault → Type 0
IsFaulty reader fault = (reader.due ≡ []) × HasMessageFault (place_of reader) fault

-- such a fault stays
abbrev pub KeepsFault : Reading → Reading → Type 0
KeepsFault old new = (fault : IpfixFault) → IsFaulty old fault → IsFaulty new fault

-- nothing changes there
abbrev pub StaysFaulty : Reading → Reading → Type 0
StaysFaulty old new = (fault : IpfixFault) → IsFaulty old fault → new ≡ old

-- what was fed and given tells the same
abbrev pub Keeps : Reading → Reading → Type 0
Keeps old new = (octets : List ℕ) (given : List Record) → Stands old octets given → Stands new octets given

-- a message was taken, whose records are due
pub record Takes (old new : Reading) : Type 0 where
  pub passes : MessagePasses (place_of old) new.due (place_of new)
  pub none : old.due ≡ []
  pub count : new.messages ≡ old.messages + 1
  pub fed : fed new ≡ fed old
  pub less : length new.pending < length old.pending
  pub held : held new ≡ held old
  pub few : OwesFew new

-- what is due: a record, more octets, or a fault
abbrev pub IsDue : Reading → Found → Type 0
IsDue reader found.Due = 0 < length reader.due
IsDue reader found.Taken = ⊥
IsDue reader found.More = Waits reader
IsDue reader (found.Bad fault) = IsFaulty reader fault

-- The messages that were taken on the way to the records that were given, one behind the other: some that have no record,
-- and then perhaps a last one, of which these were given and the others are due. Where a record was due none was taken.
pub record GoesOver (old new : Reading) (given : List Record) : Type 0 where
  pub before : List (List Record)
  pub bare : joined before ≡ []
  pub last : List (List Record)
  pub single : length last ≤ 1
  pub leads : Chain MessagePasses (place_of old) (before ++ last) (place_of new)
  pub count : new.messages ≡ old.messages + length (before ++ last)
  pub owes : old.due ++ joined last ≡ given ++ new.due
  pub still : (old.due ≡ []) ⊎ (before ++ last ≡ [])

-- Messages were taken up to one with a record, or one that waits or has a fault: none where what is due has a fault or is
-- a record.
pub record Advances (old new : Reading) (found : Found) : Type 0 where
  pub keeps : Keeps old new
  pub fed : fed new ≡ fed old
  pub held : held new ≡ held old
  pub goes : GoesOver old new []
  pub faulty : StaysFaulty old new
  pub still : 0 < length old.due → new ≡ old
  pub due : IsDue new found

-- one message was looked at, and taken where it is whole and without a fault
abbrev pub Steps : Reading → Reading → Found → Type 0
Steps old new found.Due = ⊥
Steps old new found.Taken = Takes old new
Steps old new found.More = (new ≡ old) × IsDue old found.More
Steps old new (found.Bad fault) = (new ≡ old) × IsDue old (found.Bad fault)

-- the record that a step gives
abbrev pub shown : IpfixStep → List Record
shown (Export e) = record_of e ∷ []
shown More = []
shown (Bad at fault) = []

-- how a step leaves the reader: the record that it gives can be written; or more octets are needed; or the message that
-- begins at this place has this fault
abbrev pub Rested : Reading → IpfixStep → Type 0
Rested new (Export e) = IsRecord (record_of e)
Rested new More = Waits new
Rested new (Bad at fault) = (at ≡ new.start) × IsFaulty new fault

-- what a step without a record says of the octets fed so far and the records given: these are all records of the
-- messages taken, and the octets are exactly these messages and a rest; a fault ends them, whatever is fed
abbrev pub Says : List ℕ → List Record → Reading → IpfixStep → Type 0
Says octets given new (Export e) = ⊤
Says octets given new More = (messages : List (List Record)) × IpfixOf octets messages (place_of new) × (given ≡ joined messages)
    × (new.messages ≡ length messages)
Says octets given new (Bad at fault) = (messages : List (List Record)) × (given ≡ joined messages) × (new.messages ≡ length messages)
    × ((more : List ℕ) → Reads (octets ++ more) messages (Faulty at fault)) × ((more : List ℕ) → ReadsOnly (octets ++ more) messages (Faulty at fault))

-- a step tells of the octets that were fed and the records that were given: the reader stands for them with the step's record
-- behind them, and what the step says of them holds
abbrev pub Told : List ℕ → List Record → Reading → IpfixStep → Type 0
Told octets given new step = Stands new octets (given ++ shown step) × Says octets given new step

-- where what is due has a fault a step says this fault, and changes nothing
abbrev pub SaysFault : Reading → Reading → IpfixStep → Type 0
SaysFault old new step = (fault : IpfixFault) → IsFaulty old fault → (step ≡ Bad old.start fault) × (new ≡ old)

-- where a record is due a step gives it, and changes nothing else
abbrev pub SaysDue : Reading → Reading → IpfixStep → Type 0
SaysDue old new step = (x : Record) (xs : List Record) → old.due ≡ x ∷ xs → (shown step ≡ x ∷ []) × (new ≡ with_due xs old)

-- What a step tells. `goes` says that no record is lost and none taken early: the record that it gives was due, or is the first of
-- the last message that it took.
pub record Tells (old new : Reading) (step : IpfixStep) : Type 0 where
  pub rested : Rested new step
  pub fed : fed new ≡ fed old
  pub told : (octets : List ℕ) (given : List Record) → Stands old octets given → Told octets given new step
  pub fault : SaysFault old new step
  pub due : SaysDue old new step
  pub held : held new ≡ held old
  pub goes : GoesOver old new (shown step)

-- so the reader is once the step's octets are no longer lent
abbrev pub RestsSo : MutBor Reading → IpfixStep → Fml
RestsSo reader step = Rests the_row reader (λ new. Tells reader.now new step)

-- the ending of an input that was fed whole, by what `finish` answers
abbrev pub ending_of : Option (ℕ × IpfixFault) → Ending
ending_of None = Whole
ending_of (Some (at, fault)) = Faulty at fault

-- and how that input reads
abbrev pub ReadsSo : List ℕ → List Record → Ending → Type 0
ReadsSo octets given ending = (messages : List (List Record)) × (given ≡ joined messages) × Reads octets messages ending × ReadsOnly octets messages ending
