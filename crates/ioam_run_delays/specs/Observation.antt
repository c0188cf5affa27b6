-- What a record of a capture shows of delays: the traces of its packet, each read or bad, or that it is skipped.
use Rattle.std.specs.Prelude.{◌≡◌, ℕ, ⊤, List, [], ◌∷◌, Option, Some, None}
use Rattle.ioam_delay_counts.specs.Courses.{Course}
use Rattle.ioam_delay_traces.specs.Listed.{ShowsListed}
use Rattle.ioam_delay_traces.specs.Shown.{shown_of}
use Rattle.ioam_ip.specs.Chain.{IsSound}
use Rattle.ioam_ip.specs.Framing.{Framing, Holds, NoIpv6, CutShort, TooShort}
use Rattle.ioam_pcap.specs.Entries.{Taken}
use Rattle.ioam_run_stream.specs.Frame.{taken_framing}

-- what a record shows
abbrev pub Observation : Type 0
Observation = Option (List (Option Course))

-- a packet whose chain isn't whole is skipped; another shows its traces, where fractions are in units of 1/units seconds, and they are those that
-- `paths` lists
abbrev pub PacketShows : ℕ → List ℕ → Observation → Type 0
PacketShows units packet None = IsSound packet → ⊥
PacketShows units packet (Some seen) = IsSound packet × (seen ≡ shown_of units packet) × ShowsListed units packet

-- a frame without a packet is skipped
abbrev pub FramingShows : ℕ → Framing → Observation → Type 0
FramingShows units (Holds packet) seen = PacketShows units packet seen
FramingShows units NoIpv6 seen = seen ≡ None
FramingShows units CutShort seen = seen ≡ None
FramingShows units TooShort seen = seen ≡ None

-- what one record of a capture shows
abbrev pub Shows : ℕ → Taken → Observation → Type 0
Shows units t seen = FramingShows units (taken_framing t) seen

-- what each shows
abbrev pub ShowAll : ℕ → List Taken → List Observation → Type 0
ShowAll units [] [] = ⊤
ShowAll units [] (o ∷ os) = ⊥
ShowAll units (t ∷ ts) [] = ⊥
ShowAll units (t ∷ ts) (o ∷ os) = Shows units t o × ShowAll units ts os
