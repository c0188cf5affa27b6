-- Several captures merged by time: at each turn every capture that hasn't ended shows its next
-- record; the one with the least time is taken, of several with the same time the first.
use Rattle.std.specs.Prelude.{◌≡◌, ℕ, zero, suc, ⊤, List, [], ◌∷◌, map, drop, ◌==◌, if◌then◌else◌, Option, Some, None}
use Rattle.ioam_base.specs.Leads.{Leads}
use Rattle.ioam_pcap.specs.Ending.{Ending, Whole, Faulty}
use Rattle.ioam_pcap.specs.Entries.{Entry, Taken}
use Rattle.ioam_ip.specs.declared.layer.Layer.{Layer}
use Rattle.ioam_ip.specs.declared.layer.Layer.TheVariants.{Raw}
use Rattle.ioam_capture.specs.Turn.{turn_of}
use Rattle.ioam_capture.specs.declared.turns.Due.{Due}
use Rattle.ioam_capture.specs.declared.turns.Due.TheVariants.{Record, End, Bad, More}
use Rattle.ioam_capture.specs.declared.turns.Turn.{Turn}
use Rattle.ioam_capture.specs.declared.turns.Turn.TheVariants.{Next, Over, Broken, Unshown}

-- what one capture shows so far: its records that are not yet taken, and how it ends behind them,
-- where that is known
pub record Stream : Type 0 where
  pub records : List Taken
  pub ending : Option Ending

-- what is due of a capture that shows these records and then ends so: the first record by its time; or more octets; or its
-- end; or its fault
abbrev pub due_by : List Taken → Option Ending → Due
due_by (t ∷ ts) ending = Record t.entry.time
due_by [] None = More
due_by [] (Some Whole) = End
due_by [] (Some (Faulty at fault)) = Bad at fault

-- what is due of a capture
abbrev pub due_of : Stream → Due
due_of stream = due_by stream.records stream.ending

-- the turn of several captures
abbrev pub turn : List Stream → Turn
turn streams = turn_of (map due_of streams)

-- a record that was taken: the place of its capture among the captures, the layer that its octets
-- begin at, and itself
pub record Arrival : Type 0 where
  pub capture : ℕ
  pub link : Layer
  pub entry : Entry

-- the capture at a place, and its first record; past the end, or without a record, an empty one
abbrev pub stream_at : List Stream → ℕ → Stream
stream_at [] place = record { records = []; ending = None }
stream_at (s ∷ ss) zero = s
stream_at (s ∷ ss) (suc place) = stream_at ss place

-- the first of some records; of none, an empty one
abbrev pub first_of : List Taken → Taken
first_of [] = record { link = Raw; entry = record { time = 0; original = 0; octets = [] } }
first_of (t ∷ ts) = t

-- the captures once its first record was taken
abbrev pub without_first : List Stream → ℕ → List Stream
without_first [] place = []
without_first (s ∷ ss) zero = record s { records = drop 1 s.records } ∷ ss
without_first (s ∷ ss) (suc place) = s ∷ without_first ss place

-- a record comes next
abbrev pub IsNext : Turn → Type 0
IsNext (Next place time) = ⊤
IsNext Over = ⊥
IsNext (Broken place at fault) = ⊥
IsNext Unshown = ⊥

-- a record of one of the captures comes next
abbrev pub CanTake : List Stream → Type 0
CanTake streams = IsNext (turn streams)

-- a record of the capture at a place, as it is taken
abbrev pub arrival_of : ℕ → Taken → Arrival
arrival_of place t = record { capture = place; link = t.link; entry = t.entry }

-- the first record of that capture
abbrev pub taken_at : List Stream → ℕ → Arrival
taken_at streams place = arrival_of place (first_of (stream_at streams place).records)

-- the record that comes next; where none does, it is of no account which
abbrev pub arrival_by : List Stream → Turn → Arrival
arrival_by streams (Next place time) = taken_at streams place
arrival_by streams Over = taken_at streams 0
arrival_by streams (Broken place at fault) = taken_at streams place
arrival_by streams Unshown = taken_at streams 0

-- the record that comes next of these captures
abbrev pub arrival : List Stream → Arrival
arrival streams = arrival_by streams (turn streams)

-- the captures behind it
abbrev pub rest_by : List Stream → Turn → List Stream
rest_by streams (Next place time) = without_first streams place
rest_by streams Over = streams
rest_by streams (Broken place at fault) = streams
rest_by streams Unshown = streams

-- these captures once the record that comes next was taken
abbrev pub rest : List Stream → List Stream
rest streams = rest_by streams (turn streams)

-- these are taken, one after the other, and the captures then are these
abbrev pub Takes : List Stream → List Arrival → List Stream → Type 0
Takes = Leads CanTake arrival rest

-- these are all that can be taken of the captures so far, and the turn is then this
pub record TakesAll (streams : List Stream) (taken : List Arrival) (last : Turn) : Type 0 where
  pub now : List Stream
  pub takes : Takes streams taken now
  pub stops : IsNext last → ⊥
  pub last_is : turn now ≡ last

-- the records of these that were taken of one capture, in order
abbrev pub of_capture : ℕ → List Arrival → List Taken
of_capture k [] = []
of_capture k (a ∷ more) = if a.capture == k then record { link = a.link; entry = a.entry } ∷ of_capture k more else of_capture k more
