-- The captures that are written: big-endian, nanoseconds, version 2.4, no zone and no accuracy, at
-- most 262,144 octets of a packet, packets that begin with an IP header (link type 101).
use Rattle.std.specs.Prelude.{◌≡◌, ℕ, ◌/◌, ◌%◌, ◌≤◌, List, [], ◌∷◌, ◌++◌, length, All}
use Rattle.ioam_pcap.specs.Entries.{Entry, most}

-- a packet that is written: its time in nanoseconds and its octets
pub record Sent : Type 0 where
  pub time : ℕ
  pub octets : List ℕ

-- the head
abbrev pub head_octets : List ℕ
head_octets = 0xa1 ∷ 0xb2 ∷ 0x3c ∷ 0x4d ∷ 0 ∷ 2 ∷ 0 ∷ 4 ∷ 0 ∷ 0 ∷ 0 ∷ 0 ∷ 0 ∷ 0 ∷ 0 ∷ 0 ∷ 0 ∷ 4 ∷ 0 ∷ 0 ∷ 0 ∷ 0 ∷ 0 ∷ 0x65 ∷ []

-- a 32-bit number, the most significant octet first
abbrev pub word : ℕ → List ℕ
word n = (n / 16777216 % 256) ∷ (n / 65536 % 256) ∷ (n / 256 % 256) ∷ (n % 256) ∷ []

-- the seconds, which are written modulo 2^32, and the nanoseconds above them
abbrev pub seconds_of : ℕ → ℕ
seconds_of time = time / 1000000000 % 4294967296

-- the nanoseconds of a time above its whole seconds
abbrev pub fraction_of : ℕ → ℕ
fraction_of time = time % 1000000000

-- the head of a record: seconds, fraction, and twice the length
abbrev pub record_head : ℕ → ℕ → List ℕ
record_head time size = word (seconds_of time) ++ (word (fraction_of time) ++ (word size ++ word size))

-- a record
abbrev pub record_octets : ℕ → List ℕ → List ℕ
record_octets time octets = record_head time (length octets) ++ octets

-- the records of these packets, one behind the other
abbrev pub records_text : List Sent → List ℕ
records_text [] = []
records_text (s ∷ sent) = record_octets s.time s.octets ++ records_text sent

-- a capture of these packets
abbrev pub capture_text : List Sent → List ℕ
capture_text sent = head_octets ++ records_text sent

-- it may be written
abbrev pub IsSendable : Sent → Type 0
IsSendable s = length s.octets ≤ most

-- the packet that is sent is so
abbrev pub Sends : (List ℕ → Type 0) → Sent → Type 0
Sends IsSo s = IsSo s.octets

-- the octets are a capture of packets each of which is so, and has no more octets than a record may have
pub record IsCaptureOf (IsSo : List ℕ → Type 0) (octets : List ℕ) : Type 0 where
  pub sent : List Sent
  pub is : octets ≡ capture_text sent
  pub so : All (Sends IsSo) sent
  pub fits : All IsSendable sent

-- what is read of a packet that was written: its time modulo 2^32 seconds
abbrev pub entry_sent : Sent → Entry
entry_sent s = record { time = s.time % 4294967296000000000; original = length s.octets; octets = s.octets }

-- one packet more is written
abbrev pub with_sent : List Sent → ℕ → List ℕ → List Sent
with_sent sent time octets = sent ++ record { time = time; octets = octets } ∷ []
