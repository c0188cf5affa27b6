-- What a reader stands for, and what its steps tell of the octets that it was fed.
use Rattle.std.specs.Prelude.{◌≡◌, ⊤, ℕ, ◌+◌, ◌<◌, ◌≤◌, ◌^◌, List, [], ◌∷◌, ◌++◌, length, take, drop, Option, Some, None}
use Rattle.std.specs.Io.BufRead.{Rests}
use Rattle.std.specs.Borrow.{Fml, MutBor}
use Rattle.ioam_ng.specs.declared.face.Face.{Face}
use Rattle.ioam_ip.specs.declared.layer.Layer.{Layer}
use Rattle.ioam_pcap.specs.declared.capture.Packet as packet
use Rattle.ioam_pcap.specs.declared.capture.CapFault.{CapFault}
use Rattle.ioam_ng.specs.declared.block.Block.{Block}
use Rattle.ioam_ng.specs.declared.block.Content.{Content}
use Rattle.ioam_ng.specs.declared.block.Content.TheVariants as content
use Rattle.ioam_ng.specs.declared.reader.Found.{Found}
use Rattle.ioam_ng.specs.declared.reader.Found.TheVariants as found
use Rattle.ioam_ng.specs.declared.reader.NgLook.{NgLook}
use Rattle.ioam_ng.specs.declared.reader.NgLook.TheVariants as look
use Rattle.ioam_ng.specs.declared.reader.NgStep.{NgStep}
use Rattle.ioam_ng.specs.declared.reader.NgStep.TheVariants.{Packet, More, Bad, NoMemory}
use Rattle.ioam_ng.specs.contracts.reader.NgReader.{the_row}
use Rattle.ioam_ng.specs.Blocks.{CanPass, Blocks, front, kind, packets, packet_there, behind}
use Rattle.ioam_pcap.specs.Ending.{Faulty}
use Rattle.ioam_pcap.specs.Entries.{Taken}
use Rattle.ioam_ng.specs.BlockSteps.{taken_of, known_with}
use Rattle.ioam_ng.specs.Reading.{Reading, place_of, fed, held}
use Rattle.ioam_ng.specs.Reads.{HasFault, IsCut, Reads, ReadsOnly, CapNg}

-- a reader that was fed these octets in all, and has given these packets
pub record Stands (reader : Reading) (octets : List ℕ) (taken : List Taken) : Type 0 where
  pub blocks : List (Option Taken)
  pub leads : Blocks (front octets) blocks (place_of reader)
  pub given : taken ≡ packets blocks
  pub inside : fed reader ≡ length octets

-- what is due is not whole and has no fault: more octets have to be fed, or the capture ends
abbrev pub Waits : Reading → Type 0
Waits reader = IsCut (place_of reader)

-- then a reader holds back less than the octets of the largest block
abbrev pub HoldsFew : Reading → Type 0
HoldsFew reader = length reader.pending < 16777216

-- what is due has this fault
abbrev pub IsFaulty : Reading → CapFault → Type 0
IsFaulty reader fault = HasFault (place_of reader) fault

-- a fault of what is due stays
abbrev pub KeepsFault : Reading → Reading → Type 0
KeepsFault old new = (fault : CapFault) → IsFaulty old fault → IsFaulty new fault

-- where what is due has a fault nothing changes
abbrev pub StaysFaulty : Reading → Reading → Type 0
StaysFaulty old new = (fault : CapFault) → IsFaulty old fault → new ≡ old

-- what is known behind a block of this content
abbrev pub faces_with : List Face → Content → List Face
faces_with faces content.Section = []
faces_with faces (content.Face face) = faces ++ face ∷ []
faces_with faces (content.Packet head) = faces
faces_with faces content.Other = faces

-- a block was taken, whatever is still kept of its octets
abbrev pub moved_by : Reading → Block → Reading
moved_by old b = record old { known = known_with old.known b.order (faces_with old.known.faces b.content); start = old.start + b.size; pending = drop b.size old.pending }

-- the reader stands behind a block that was taken, whatever octets that it gave it still keeps
abbrev pub IsMoved : Reading → Block → Reading → Type 0
IsMoved old b new = new ≡ record (moved_by old b) { given = new.given }

-- blocks without a packet were passed
pub record Skips (old new : Reading) : Type 0 where
  pub blocks : List (Option Taken)
  pub leads : Blocks (place_of old) blocks (place_of new)
  pub none : packets blocks ≡ []
  pub fed : fed new ≡ fed old
  pub still : blocks ≡ [] → new.given ≡ old.given
  pub held : held new ≡ held old

-- what is due is a whole block without a fault, of this packet
abbrev pub HasPacket : Reading → Taken → Type 0
HasPacket reader packet = CanPass (place_of reader) × (packet_there (place_of reader) ≡ Some packet)

-- a look shows what is due: a packet with this time, or more octets are needed, or a fault
abbrev pub Shows : Reading → NgLook → Type 0
Shows reader (look.Packet time) = (packet : Taken) × HasPacket reader packet × (packet.entry.time ≡ time)
Shows reader look.More = Waits reader × HoldsFew reader
Shows reader (look.Bad at fault) = (at ≡ reader.start) × IsFaulty reader fault

-- what is due is a whole block without a packet and without a fault
abbrev pub IsPlain : Reading → Type 0
IsPlain reader = CanPass (place_of reader) × (packet_there (place_of reader) ≡ None)

-- and it is an interface block
abbrev pub IsFace : Reading → Type 0
IsFace reader = IsPlain reader × (kind reader.known reader.pending ≡ 1)

-- a block of this content is an interface
abbrev pub HoldsFace : Content → Type 0
HoldsFace content.Section = ⊥
HoldsFace (content.Face face) = ⊤
HoldsFace (content.Packet head) = ⊥
HoldsFace content.Other = ⊥

-- what is due is a packet, of which the block says this
abbrev pub IsPacket : Reading → Block → Content → Type 0
IsPacket reader b content.Section = ⊥
IsPacket reader b (content.Face face) = ⊥
IsPacket reader b (content.Packet head) = CanPass (place_of reader)
    × (packet_there (place_of reader) ≡ Some (taken_of head (take head.captured (drop 28 reader.pending))))
    × (place_of (moved_by reader b) ≡ behind (place_of reader))
    × (b.size ≤ length reader.pending) × (32 + head.captured ≤ b.size) × (head.captured ≤ 262144) × (head.time < 2 ^ 62) × (reader.known.count < 33554432)
IsPacket reader b content.Other = ⊥

-- what is due behind the blocks without a packet
abbrev pub IsDue : Reading → Found → Type 0
IsDue reader (found.Packet b) = IsPacket reader b b.content
IsDue reader found.Passed = ⊥
IsDue reader found.More = Waits reader × HoldsFew reader
IsDue reader (found.Bad fault) = IsFaulty reader fault
IsDue reader found.NoMemory = IsFace reader

-- one block was looked at, and passed where it has no packet
abbrev pub Steps : Reading → Reading → Found → Type 0
Steps old new found.Passed = IsPlain old × (place_of new ≡ behind (place_of old)) × (fed new ≡ fed old) × (length new.pending < length old.pending) × (held new ≡ held old)
Steps old new (found.Packet b) = (new ≡ old) × IsDue old (found.Packet b)
Steps old new found.More = (new ≡ old) × IsDue old found.More
Steps old new (found.Bad fault) = (new ≡ old) × IsDue old (found.Bad fault)
Steps old new found.NoMemory = (new ≡ old) × IsDue old found.NoMemory

-- what a packet shows of its block
abbrev pub shown_of : Layer → packet.Packet → Taken
shown_of link p = record { link = link; entry = record { time = p.time; original = p.original; octets = p.octets.now } }

-- the packets that a step gives: one, or none
abbrev pub packet_shown : NgStep → List Taken
packet_shown (Packet link p) = shown_of link p ∷ []
packet_shown More = []
packet_shown (Bad at fault) = []
packet_shown NoMemory = []

-- A step takes off octets and loses none. Behind `More` what is due waits; behind `Bad` it has this
-- fault, and stands at this place; a packet has a time below 2^62 and no more than 262,144 octets;
-- behind `NoMemory` an interface block is due that could not be kept.
abbrev pub Rested : Reading → NgStep → Type 0
Rested new (Packet link p) = (p.time < 2 ^ 62) × (length p.octets.now ≤ 262144)
Rested new More = Waits new × HoldsFew new
Rested new (Bad at fault) = (at ≡ new.start) × IsFaulty new fault
Rested new NoMemory = IsFace new

-- a capture that has a fault reads so, whatever is fed, and in no other way
abbrev pub EndsFaulty : List ℕ → List Taken → ℕ → CapFault → Type 0
EndsFaulty octets taken at fault = ((more : List ℕ) → Reads (octets ++ more) taken (Faulty at fault))
    × ((more : List ℕ) → ReadsOnly (octets ++ more) taken (Faulty at fault))

-- what a step says of the octets fed so far, behind these packets: where it has no packet, that they
-- are exactly blocks with these packets and a rest; and that a fault ends the capture
abbrev pub Says : List ℕ → List Taken → Reading → NgStep → Type 0
Says octets taken new (Packet link p) = ⊤
Says octets taken new More = CapNg octets taken new.pending
Says octets taken new (Bad at fault) = CapNg octets taken new.pending × EndsFaulty octets taken at fault
Says octets taken new NoMemory = ⊤

-- a step tells of the octets that were fed and the packets that were given: the reader stands for them with the step's packet
-- behind them, and what the step says of them holds
abbrev pub Told : List ℕ → List Taken → Reading → NgStep → Type 0
Told octets taken new step = Stands new octets (taken ++ packet_shown step) × Says octets taken new step

-- where what is due has a fault a step says this fault, and changes nothing
abbrev pub SaysFault : Reading → Reading → NgStep → Type 0
SaysFault old new step = (fault : CapFault) → IsFaulty old fault → (step ≡ Bad old.start fault) × (new ≡ old)

-- where a packet is due a step gives it
abbrev pub SaysPacket : Reading → NgStep → Type 0
SaysPacket old step = (packet : Taken) → HasPacket old packet → packet_shown step ≡ packet ∷ []

-- behind a packet the reader stands directly behind its block, and behind any other step where the
-- block is due of which it says so; all that stands before is blocks without a packet
abbrev pub StandsBehind : Reading → Reading → NgStep → Type 0
StandsBehind old new (Packet link p) = (mid : Reading) × Skips old mid × HasPacket mid (shown_of link p) × (place_of new ≡ behind (place_of mid))
StandsBehind old new More = Skips old new
StandsBehind old new (Bad at fault) = Skips old new
StandsBehind old new NoMemory = Skips old new

-- so the reader is once the step's octets are no longer lent: it keeps as many octets as before
abbrev pub RestsSo : MutBor Reading → NgStep → Fml
RestsSo reader step = Rests the_row reader (λ new. Rested new step × (fed new ≡ fed reader.now)
    × (length new.pending ≤ length reader.now.pending)
    × ((octets : List ℕ) (taken : List Taken) → Stands reader.now octets taken → Told octets taken new step)
    × SaysFault reader.now new step × SaysPacket reader.now step × StandsBehind reader.now new step
    × (held new ≡ held reader.now))
