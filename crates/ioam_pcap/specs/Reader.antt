-- What a reader stands for, and what its steps tell of the octets that it was fed.
use Rattle.std.specs.Prelude.{◌≡◌, ℕ, ◌+◌, ◌<◌, ◌≤◌, ◌^◌, List, [], ◌∷◌, ◌++◌, length, drop, Option, Some, None}
use Rattle.std.specs.Io.BufRead.{Rests}
use Rattle.std.specs.Borrow.{Fml, MutBor}
use Rattle.ioam_ip.specs.declared.layer.Layer.{Layer}
use Rattle.ioam_pcap.specs.declared.capture.CapFault.{CapFault}
use Rattle.ioam_pcap.specs.declared.capture.Packet as packet
use Rattle.ioam_pcap.specs.declared.capture.CapStep.{CapStep}
use Rattle.ioam_pcap.specs.declared.capture.CapStep.TheVariants.{Head, Packet, More, Bad}
use Rattle.ioam_pcap.specs.declared.capture.CapLook.{CapLook}
use Rattle.ioam_pcap.specs.declared.capture.CapLook.TheVariants as look
use Rattle.ioam_pcap.specs.contracts.reader.CaptureReader.{the_row}
use Rattle.ioam_pcap.specs.Ending.{Faulty}
use Rattle.ioam_pcap.specs.Entries.{Entry}
use Rattle.ioam_pcap.specs.Reads.{Reached, FaultAt, CutAt, Shown, HeadShown, EntryShown, CutShown, FaultShown, Shows, Reads, ReadsOnly, Cap, link_by}
use Rattle.ioam_pcap.specs.Reading.{Reading}

-- a reader that was fed these octets in all, and has given these records
pub record Stands (reader : Reading) (octets : List ℕ) (entries : List Entry) : Type 0 where
  pub left : reader.pending ≡ drop reader.start octets
  pub inside : reader.start ≤ length octets
  pub reached : Reached octets reader.form entries reader.start

-- a reader that was fed nothing
abbrev pub fresh : Reading
fresh = record { form = None; start = 0; pending = []; given = 0 }

-- how many octets it was fed in all
abbrev pub fed : Reading → ℕ
fed reader = reader.start + length reader.pending

-- how many octets it keeps
abbrev pub held : Reading → ℕ
held reader = reader.given + length reader.pending

-- the most octets that a record has, its head included
abbrev pub most_size : ℕ
most_size = 262160

-- a reader holds back less than the octets of a record
abbrev pub HoldsFew : Reading → Type 0
HoldsFew reader = length reader.pending < most_size

-- the layer that the packets begin at, once the head was read
abbrev pub link_of : Reading → Option Layer
link_of reader = link_by reader.form

-- what a packet shows of its record
abbrev pub entry_of : packet.Packet → Entry
entry_of p = record { time = p.time; original = p.original; octets = p.octets.now }

-- what is due is not whole and has no fault: more octets have to be fed, or the capture ends
abbrev pub Waits : Reading → Type 0
Waits reader = CutAt reader.pending reader.form 0

-- what is due has this fault
abbrev pub HasFault : Reading → CapFault → Type 0
HasFault reader fault = FaultAt reader.pending reader.form 0 fault

-- a fault of what is due stays
abbrev pub KeepsFault : Reading → Reading → Type 0
KeepsFault old new = (fault : CapFault) → HasFault old fault → HasFault new fault

-- where what is due has a fault a step says this fault
abbrev pub SaysFault : Reading → CapStep → Type 0
SaysFault reader step = (fault : CapFault) → HasFault reader fault → step ≡ Bad reader.start fault

-- the octets that a step takes off; the head is read once, and records behind it; a record has a time
-- below 2^62 and no more than 262,144 octets; where more octets are needed there are fewer than a
-- record has
abbrev pub Moved : Reading → Reading → CapStep → Type 0
Moved old new (Head link) = (new.start ≡ old.start + 24) × (new.pending ≡ drop 24 old.pending) × (length new.pending + 24 ≡ length old.pending)
    × (old.form ≡ None) × (link_of new ≡ Some link)
Moved old new (Packet p) = (new.form ≡ old.form) × (new.start ≡ old.start + (16 + length p.octets.now))
    × (new.pending ≡ drop (16 + length p.octets.now) old.pending)
    × (length new.pending + (16 + length p.octets.now) ≡ length old.pending)
    × (p.time < 2 ^ 62) × (old.form ≡ None → ⊥) × (length p.octets.now ≤ 262144)
Moved old new More = (new ≡ old) × Waits old × HoldsFew old
Moved old new (Bad at fault) = (new ≡ old) × (at ≡ old.start) × HasFault old fault

-- what a step shows of the octets fed so far
abbrev pub shown_by : CapStep → Shown
shown_by (Head link) = HeadShown link
shown_by (Packet p) = EntryShown (entry_of p)
shown_by More = CutShown
shown_by (Bad at fault) = FaultShown fault

-- once the head was read, the octets are it, exactly these records, and a rest that begins no whole
-- record
abbrev pub IsCap : List ℕ → List Entry → Reading → Type 0
IsCap octets entries reader = (link : Layer) → link_of reader ≡ Some link → Cap octets link entries reader.start

-- what the reader stands for behind a step; a capture with a fault ends there, whatever is fed, and
-- reads in this way alone
abbrev pub Leaves : List ℕ → List Entry → Reading → Reading → CapStep → Type 0
Leaves octets entries old new (Head link) = (link_of new ≡ Some link) × Stands new octets entries
Leaves octets entries old new (Packet p) = Stands new octets (entries ++ entry_of p ∷ [])
Leaves octets entries old new More = Stands new octets entries × IsCap octets entries old
Leaves octets entries old new (Bad at fault) = Stands new octets entries × IsCap octets entries old
    × Reads octets (link_of old) entries (Faulty at fault)
    × ((more : List ℕ) → Reads (octets ++ more) (link_of old) entries (Faulty at fault))
    × ((more : List ℕ) → ReadsOnly (octets ++ more) (link_of old) entries (Faulty at fault))

-- what a step tells of the octets fed so far, behind these records
abbrev pub Told : List ℕ → List Entry → Reading → Reading → CapStep → Type 0
Told octets entries old new step = Shows octets old.form old.start (shown_by step) × Leaves octets entries old new step

-- what a look tells of the octets fed so far: what a step would show, of a record its time and size
abbrev pub Looks : List ℕ → Reading → CapLook → Type 0
Looks octets reader (look.Head link) = Shows octets reader.form reader.start (HeadShown link)
Looks octets reader (look.Packet time size) = (entry : Entry) × Shows octets reader.form reader.start (EntryShown entry)
    × (time ≡ entry.time) × (size ≡ length entry.octets)
Looks octets reader look.More = Shows octets reader.form reader.start CutShown
Looks octets reader (look.Bad at fault) = (at ≡ reader.start) × Shows octets reader.form reader.start (FaultShown fault)

-- so the reader is once the step's octets are no longer lent: it keeps as many octets as before
abbrev pub RestsSo : MutBor Reading → CapStep → Fml
RestsSo reader step = Rests the_row reader (λ new. Moved reader.now new step
    × ((octets : List ℕ) (entries : List Entry) → Stands reader.now octets entries → Told octets entries reader.now new step)
    × SaysFault reader.now step × (held new ≡ held reader.now))
