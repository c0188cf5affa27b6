-- What a reader of a capture of either form stands for, and what its steps tell of the octets that it
-- was fed.
use Rattle.std.specs.Prelude.{◌≡◌, ⊤, ℕ, ◌<◌, ◌≤◌, ◌^◌, List, [], ◌∷◌, ◌++◌, length, Bool, None, false}
use Rattle.std.specs.Io.BufRead.{Rests}
use Rattle.std.specs.Borrow.{Fml, MutBor}
use Rattle.ioam_pcap.specs.Ending.{Faulty}
use Rattle.ioam_pcap.specs.Entries.{Entry, Taken}
use Rattle.ioam_pcap.specs.contracts.reader.CaptureReader as classic_row
use Rattle.ioam_pcap.specs.Reading as classic_reading
use Rattle.ioam_pcap.specs.Reader as classic
use Rattle.ioam_pcap.specs.declared.capture.CapFault.{CapFault}
use Rattle.ioam_pcap.specs.declared.capture.Packet as packet
use Rattle.ioam_ip.specs.declared.layer.Layer.{Layer}
use Rattle.ioam_ng.specs.contracts.reader.NgReader as ng_row
use Rattle.ioam_ng.specs.Reading as ng_reading
use Rattle.ioam_ng.specs.Reader as ng
use Rattle.ioam_capture.specs.contracts.reader.Reader.{the_row}
use Rattle.ioam_capture.specs.declared.reader.Step.{Step}
use Rattle.ioam_capture.specs.declared.reader.Step.TheVariants.{Packet, More, Bad, NoMemory}
use Rattle.ioam_capture.specs.declared.turns.Due.{Due}
use Rattle.ioam_capture.specs.Merge.{Stream, due_of}
use Rattle.ioam_capture.specs.Reading.{Reading, Front, Classic, Ng, pending, start, fed, held, HoldsFew}
use Rattle.ioam_capture.specs.Reads.{IsNg, of_link, Reads, ReadsOnly}
use Rattle.ioam_capture.specs.Streams.{ShowsSo, Streams}

-- a reader that was fed these octets in all, and has given these records
abbrev pub Stands : Reading → List ℕ → List Taken → Type 0
Stands (Front held) octets taken = (held ≡ octets) × (length octets < 4) × (taken ≡ [])
Stands (Classic reader) octets taken = (IsNg octets → ⊥) × (4 ≤ length octets)
    × ((entries : List Entry) × classic.Stands reader octets entries × (taken ≡ of_link (classic.link_of reader) entries))
Stands (Ng reader) octets taken = IsNg octets × ng.Stands reader octets taken

-- what is due is not whole and has no fault: more octets have to be fed, or the capture ends
abbrev pub Waits : Reading → Type 0
Waits (Front held) = length held < 4
Waits (Classic reader) = classic.Waits reader
Waits (Ng reader) = ng.Waits reader

-- what is due has this fault, and stands at this place
abbrev pub HasFault : Reading → ℕ → CapFault → Type 0
HasFault (Front held) at fault = ⊥
HasFault (Classic reader) at fault = (at ≡ reader.start) × classic.HasFault reader fault
HasFault (Ng reader) at fault = (at ≡ reader.start) × ng.IsFaulty reader fault

-- a fault of what is due stays, and stays where it is
abbrev pub KeepsFault : Reading → Reading → Type 0
KeepsFault old new = (at : ℕ) (fault : CapFault) → HasFault old at fault → HasFault new at fault

-- what is due is an interface block, of a capture in the form pcapng
abbrev pub IsFace : Reading → Type 0
IsFace (Front held) = ⊥
IsFace (Classic reader) = ⊥
IsFace (Ng reader) = ng.IsFace reader

-- what a record that is given says
abbrev pub taken_of : Layer → packet.Packet → Taken
taken_of link p = record { link = link; entry = record { time = p.time; original = p.original; octets = p.octets.now } }

-- the record that a step gives, where it gives one
abbrev pub given_by : Step → List Taken
given_by (Packet link p) = taken_of link p ∷ []
given_by More = []
given_by (Bad at fault) = []
given_by NoMemory = []

-- A record has a time below 2^62 and no more than 262,144 octets; behind `More` what is due waits;
-- behind `Bad` it has this fault at this place; behind `NoMemory` it is an interface block that could
-- not be kept.
abbrev pub Rested : Reading → Step → Type 0
Rested new (Packet link p) = (p.time < 2 ^ 62) × (length p.octets.now ≤ 262144)
Rested new More = Waits new × HoldsFew new
Rested new (Bad at fault) = HasFault new at fault
Rested new NoMemory = IsFace new

-- What a step says of the octets fed so far, behind these records: that they show no more and how the
-- capture ends isn't known yet; or that it ends by this fault, whatever is fed, and reads in no other way.
abbrev pub Says : List ℕ → List Taken → Step → Type 0
Says octets taken (Packet link p) = ⊤
Says octets taken More = ShowsSo octets false taken None
Says octets taken (Bad at fault) = ((more : List ℕ) → Reads (octets ++ more) taken (Faulty at fault))
    × ((more : List ℕ) → ReadsOnly (octets ++ more) taken (Faulty at fault))
Says octets taken NoMemory = ⊤

-- a step tells of the octets that were fed and the records that were given: the reader stands for them with the step's record
-- behind them, and what the step says of them holds
abbrev pub Told : List ℕ → List Taken → Reading → Step → Type 0
Told octets taken new step = Stands new octets (taken ++ given_by step) × Says octets taken step

-- what a step leaves, and what it says; it takes off octets and loses none, and as many are kept
abbrev pub Leaves : Reading → Reading → Step → Type 0
Leaves old new step = Rested new step × (fed new ≡ fed old) × (length (pending new) ≤ length (pending old))
    × ((octets : List ℕ) (taken : List Taken) → Stands old octets taken → Told octets taken new step)
    × (held new ≡ held old)

-- where what is due has a fault a step says this fault
abbrev pub SaysFault : Reading → Step → Type 0
SaysFault reader step = (at : ℕ) (fault : CapFault) → HasFault reader at fault → step ≡ Bad at fault

-- so the reader is once the step's octets are no longer lent
abbrev pub RestsSo : MutBor Reading → Step → Fml
RestsSo reader step = Rests the_row reader (λ new. Leaves reader.now new step)

-- and so the reader of a form
abbrev pub RestsClassic : MutBor classic_reading.Reading → Step → Fml
RestsClassic reader step = Rests classic_row.the_row reader (λ new. Leaves (Classic reader.now) (Classic new) step)

-- and that of a pcapng
abbrev pub RestsNg : MutBor ng_reading.Reading → Step → Fml
RestsNg reader step = Rests ng_row.the_row reader (λ new. Leaves (Ng reader.now) (Ng new) step)

-- this is due of the capture, where these octets are all of it or may not be
abbrev pub IsDue : Reading → Bool → Due → Type 0
IsDue reader ended due = (octets : List ℕ) (taken : List Taken) (stream : Stream) → Stands reader octets taken
    → Streams octets ended taken stream → due ≡ due_of stream

-- what stands before the next record was passed
abbrev pub KeepsOn : Reading → Reading → Type 0
KeepsOn old new = (octets : List ℕ) (taken : List Taken) → Stands old octets taken → Stands new octets taken

-- the octets of a piece were fed
abbrev pub IsFed : Reading → List ℕ → Reading → Type 0
IsFed old piece new = (pending new ≡ pending old ++ piece) × (start new ≡ start old)
