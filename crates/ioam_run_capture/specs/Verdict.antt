-- What becomes of a captured frame at the boundary of a domain: the first reason why it is dropped,
-- or its packet.
use Rattle.std.specs.Prelude.{◌≡◌, ℕ, List, [], ◌∷◌}
use Rattle.ioam_ip.specs.Framing.{Framing, Holds, NoIpv6, CutShort, TooShort}
use Rattle.ioam_ip.specs.Chain.{IsSound}
use Rattle.ioam_ip.specs.ChainOptions.{CarriesIoam}
use Rattle.ioam_pcap.specs.Entries.{Taken}
use Rattle.ioam_run_stream.specs.Frame.{taken_framing}
use Rattle.ioam_node.specs.Order.{Stop, stop, IsFirst}
use Rattle.ioam_node.specs.declared.reason.Reason.{Reason}
use Rattle.ioam_node.specs.declared.reason.Reason.TheVariants as reason

-- the packet that is kept, or the reason why the frame is dropped
pub data Verdict : Type 0 where
  Keeps : (packet : List ℕ) → Verdict
  Drops : Reason → Verdict

-- why a packet is dropped, in the order in which it is looked for
abbrev pub drops : List ℕ → List Stop
drops packet = stop reason.Chain (IsSound packet → ⊥) ∷ stop reason.IoamIn (IsSound packet × CarriesIoam packet) ∷ []

-- the packet is kept if its chain is whole and no options header on it has an IOAM option
abbrev pub PacketVerdict : List ℕ → Verdict → Type 0
PacketVerdict packet (Keeps kept) = (kept ≡ packet) × IsSound packet × (CarriesIoam packet → ⊥)
PacketVerdict packet (Drops reason) = IsFirst (drops packet) reason

-- the verdict on a frame: that on its packet, or the reason why it has none
abbrev pub FramingVerdict : Framing → Verdict → Type 0
FramingVerdict (Holds packet) verdict = PacketVerdict packet verdict
FramingVerdict NoIpv6 verdict = verdict ≡ Drops reason.NotIpv6
FramingVerdict CutShort verdict = verdict ≡ Drops reason.Cut
FramingVerdict TooShort verdict = verdict ≡ Drops reason.Length

-- what becomes of one record of a capture
abbrev pub HasVerdict : Taken → Verdict → Type 0
HasVerdict t verdict = FramingVerdict (taken_framing t) verdict

-- what becomes of each
abbrev pub AreVerdicts : List Taken → List Verdict → Type 0
AreVerdicts [] [] = Unit {0}
AreVerdicts [] (v ∷ vs) = ⊥
AreVerdicts (t ∷ ts) [] = ⊥
AreVerdicts (t ∷ ts) (v ∷ vs) = HasVerdict t v × AreVerdicts ts vs
