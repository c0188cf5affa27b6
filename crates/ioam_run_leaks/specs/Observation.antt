-- What a record of a capture shows of IOAM.
use Rattle.std.specs.Prelude.{◌≡◌, ℕ, ◌≤◌, ⊤, List, [], ◌∷◌, length}
use Rattle.ioam_ip.specs.Framing.{Framing, Holds, NoIpv6, CutShort, TooShort}
use Rattle.ioam_ip.specs.Packet.{IsPacket}
use Rattle.ioam_leaks.specs.Finding.{HasFinding}
use Rattle.ioam_leaks.specs.declared.finding.Finding.{Finding}
use Rattle.ioam_pcap.specs.Entries.{Taken, most}
use Rattle.ioam_run_stream.specs.Frame.{taken_framing}
use Rattle.ioam_run_leaks.specs.declared.observe.Observed.{Observed}
use Rattle.ioam_run_leaks.specs.declared.observe.Observed.TheVariants.{Seen, Missed}
use Rattle.ioam_run_leaks.specs.declared.observe.Unseen.{Unseen}
use Rattle.ioam_run_leaks.specs.declared.observe.Unseen.TheVariants.{NotIpv6, Cut, Length}

-- a packet and what it shows, or why there is none
pub data Observation : Type 0 where
  Sees : (packet : List ℕ) → Finding → Observation
  Misses : Unseen → Observation

-- what contracts see of an `Observed`
abbrev pub observation_of : Observed → Observation
observation_of (Seen packet finding) = Sees packet.now finding
observation_of (Missed why) = Misses why

-- what a frame shows: its packet with its finding, or why it has none
abbrev pub FramingShows : Framing → Observation → Type 0
FramingShows (Holds packet) (Sees seen finding) = (seen ≡ packet) × IsPacket packet × HasFinding packet finding
FramingShows (Holds packet) (Misses why) = ⊥
FramingShows NoIpv6 seen = seen ≡ Misses NotIpv6
FramingShows CutShort seen = seen ≡ Misses Cut
FramingShows TooShort seen = seen ≡ Misses Length

-- what one record of a capture shows
abbrev pub Shows : Taken → Observation → Type 0
Shows t seen = FramingShows (taken_framing t) seen

-- what each shows
abbrev pub ShowAll : List Taken → List Observation → Type 0
ShowAll [] [] = ⊤
ShowAll [] (o ∷ os) = ⊥
ShowAll (t ∷ ts) [] = ⊥
ShowAll (t ∷ ts) (o ∷ os) = Shows t o × ShowAll ts os

-- what is seen is one packet, of no more octets than a record may have
abbrev pub IsSound : Observation → Type 0
IsSound (Sees packet finding) = IsPacket packet × (length packet ≤ most)
IsSound (Misses why) = ⊤
