-- The arrivals of a generated run.
use Rattle.std.specs.Prelude.{ℕ, zero, suc, ◌+◌, ◌*◌, ◌/◌, ◌%◌, ◌^◌, List, [], ◌∷◌, ◌++◌, length, replicate}
use Rattle.ioam_ip.specs.declared.layer.Layer.TheVariants.{Raw}
use Rattle.ioam_run_arrivals.specs.Fate.{Frame}
use Rattle.ioam_pcap.specs.Entries.{Entry}

-- ---- the generator

-- the state behind this one
abbrev pub next_state : ℕ → ℕ
next_state x = (x * 6364136223846793005 + 1442695040888963407) % 2 ^ 64

-- the state of an arrival, counted from 0, behind the seed
abbrev pub state_at : ℕ → ℕ → ℕ
state_at seed zero = seed
state_at seed (suc k) = next_state (state_at seed k)

-- ---- the packet of a state

-- its hop limit, 1 to 8
abbrev pub hop_limit : ℕ → ℕ
hop_limit x = 1 + x / 2 ^ 32 % 8

-- how many octets its payload has, 0 to 1,399
abbrev pub payload_size : ℕ → ℕ
payload_size x = x / 2 ^ 40 % 1400

-- the subnet of its target, 0 or 1
abbrev pub subnet : ℕ → ℕ
subnet x = x / 2 ^ 60 % 2

-- 2001:db8:1::1
abbrev pub source : List ℕ
source = 32 ∷ 1 ∷ 13 ∷ 184 ∷ 0 ∷ 1 ∷ 0 ∷ 0 ∷ 0 ∷ 0 ∷ 0 ∷ 0 ∷ 0 ∷ 0 ∷ 0 ∷ 1 ∷ []

-- 2001:db8:2:s::1
abbrev pub target : ℕ → List ℕ
target s = 32 ∷ 1 ∷ 13 ∷ 184 ∷ 0 ∷ 2 ∷ 0 ∷ s ∷ 0 ∷ 0 ∷ 0 ∷ 0 ∷ 0 ∷ 0 ∷ 0 ∷ 1 ∷ []

-- its IPv6 header (RFC 8200 section 3): version 6, class and label 0, the length of the payload, no next header (59)
abbrev pub header : ℕ → List ℕ
header x = 96 ∷ 0 ∷ 0 ∷ 0 ∷ payload_size x / 256 ∷ payload_size x % 256 ∷ 59 ∷ hop_limit x ∷ (source ++ target (subnet x))

-- its payload is zeros
abbrev pub packet : ℕ → List ℕ
packet x = header x ++ replicate (payload_size x) 0

-- ---- the arrivals

-- a packet that was captured whole
abbrev pub whole_at : ℕ → List ℕ → Entry
whole_at time octets = record { time = time; original = length octets; octets = octets }

-- an arrival, counted from 0: at the first port, without a link header, a microsecond behind the one before
abbrev pub arrival : ℕ → ℕ → Frame
arrival seed k = record { port = record { 0 = 0 }; layer = Raw; entry = whole_at (k * 1000) (packet (state_at seed k)) }

-- so many
abbrev pub arrivals : ℕ → ℕ → List Frame
arrivals seed zero = []
arrivals seed (suc k) = arrivals seed k ++ arrival seed k ∷ []
