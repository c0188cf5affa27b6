-- The packets that are kept may leave a domain.
use Rattle.std.proofs.Common.{◌≡◌, ℕ, ◌<◌, ◌≤◌, IsSomeAnd, List, [], ◌∷◌, ◌++◌, length, Option, Some, None, refl, sym, ap, subst, ⊎_elim, arith}
use Rattle.std.specs.List.{All, AllByRecursion}
use Rattle.std.proofs.lemmas.List.Elements.{All-from_recursion, All-head, All-tail, All-take}
use Rattle.std.proofs.Math.Seq.{take-append_seam}
use Rattle.ioam_desk.specs.Desk.{Reading, Writing, holds}
use Rattle.ioam_ip.specs.Clean.{MayLeave}
use Rattle.ioam_ip.proofs.FramingLaws.{framing-packet}
use Rattle.ioam_ip.proofs.WithinLaws.{Within, framing-within}
use Rattle.ioam_ip.specs.Framing.{Framing, Holds, NoIpv6, CutShort, TooShort, IfHolds}
use Rattle.ioam_ip.specs.Packet.{IsPacket}
use Rattle.ioam_pcap.specs.Cut.{is_cut}
use Rattle.ioam_run_stream.proofs.ShortLaws.{Reads-short}
use Rattle.ioam_pcap.specs.Ending.{Whole, Faulty}
use Rattle.ioam_pcap.specs.Entries.{Taken, most}
use Rattle.ioam_desk_outputs.specs.Held.{HoldTexts}
use Rattle.ioam_desk_outputs.specs.Names.{name_at}
use Rattle.ioam_pcap.specs.Text.{Sends, IsSendable, IsCaptureOf}
use Rattle.ioam_run_capture.specs.FilterText.{Filtered, FilterTexts, kept_of}
use Rattle.ioam_run_answer.specs.Outcomes.{IsBehindAll}
use Rattle.ioam_run_stream.specs.Promise.{most_packets, HoldsAll, EndsSo, ArePassed, AreWhole, Leaves}
use Rattle.ioam_run_capture.specs.Verdict.{Verdict, Keeps, Drops, FramingVerdict, AreVerdicts}
use Rattle.ioam_run_stream.specs.Frame.{taken_framing}
use Rattle.ioam_node.specs.declared.reason.Reason.{Reason}
use Rattle.ioam_run_answer.specs.declared.outcome.Outcome.{Outcome}
use Rattle.ioam_run_answer.specs.declared.outcome.Outcome.TheVariants as outcome
use Rattle.ioam_run_stream.proofs.StopsLaws.{Begins, begins_ends, begins_passed, begins_whole}

keeps_drops : (kept : List ℕ) (reason : Reason) → Keeps kept ≡ Drops reason → ⊥
keeps_drops kept reason same = cc

keeps_leaving : (kept : List ℕ) (framing : Framing) → IfHolds framing IsPacket → FramingVerdict framing (Keeps kept) → MayLeave kept
keeps_leaving kept (Holds held) is has = subst MayLeave (sym has.0) (is, (has.1, has.2))
keeps_leaving kept NoIpv6 is has = absurd (keeps_drops kept _ has)
keeps_leaving kept CutShort is has = absurd (keeps_drops kept _ has)
keeps_leaving kept TooShort is has = absurd (keeps_drops kept _ has)

kept_leaving : (ts : List Taken) (vs : List Verdict) → AreVerdicts ts vs → AllByRecursion (Sends MayLeave) (kept_of ts vs)
kept_leaving [] [] are = tt
kept_leaving [] (v ∷ vs) are = tt
kept_leaving (t ∷ ts) [] are = tt
kept_leaving (t ∷ ts) (Keeps kept ∷ vs) are =
    (keeps_leaving kept (taken_framing t) (framing-packet t.link (is_cut t.entry) t.entry.octets) are.0, kept_leaving ts vs are.1)
kept_leaving (t ∷ ts) (Drops reason ∷ vs) are = kept_leaving ts vs are.1

-- what is kept of a frame has no more octets than it
keeps_within : (kept : List ℕ) (size : ℕ) (framing : Framing) → Within size framing → FramingVerdict framing (Keeps kept) → length kept ≤ size
keeps_within kept size (Holds held) within has = omega (arith, within, ap (λ (packet : List ℕ). length packet) has.0)
keeps_within kept size NoIpv6 within has = absurd (keeps_drops kept _ has)
keeps_within kept size CutShort within has = absurd (keeps_drops kept _ has)
keeps_within kept size TooShort within has = absurd (keeps_drops kept _ has)

-- a record has no more octets than may be
abbrev IsShort : Taken → Type 0
IsShort t = length t.entry.octets ≤ most

kept_fitting : (ts : List Taken) (vs : List Verdict) → AreVerdicts ts vs → All IsShort ts → AllByRecursion IsSendable (kept_of ts vs)
kept_fitting [] [] are short = tt
kept_fitting [] (v ∷ vs) are short = tt
kept_fitting (t ∷ ts) [] are short = tt
kept_fitting (t ∷ ts) (Keeps kept ∷ vs) are short = (
  keeps_within kept most (taken_framing t) (framing-within t.link (is_cut t.entry) t.entry.octets most (All-head IsShort t ts short)) are.0,
  kept_fitting ts vs are.1 (All-tail IsShort t ts short),
)
kept_fitting (t ∷ ts) (Drops reason ∷ vs) are short = kept_fitting ts vs are.1 (All-tail IsShort t ts short)

leaving_capture : (ts : List Taken) (out text : List ℕ) → Filtered ts out text → All IsShort ts → IsCaptureOf MayLeave out
leaving_capture ts out text filtered short = record {
  sent = kept_of ts filtered.verdicts;
  is = filtered.out_is;
  so = All-from_recursion (Sends MayLeave) (kept_of ts filtered.verdicts) (kept_leaving ts filtered.verdicts filtered.are);
  fits = All-from_recursion IsSendable (kept_of ts filtered.verdicts) (kept_fitting ts filtered.verdicts filtered.are short);
}

leaving_held : (ts : List Taken) (texts : List (List ℕ)) (output report : List ℕ) (new : Writing) → All IsShort ts
    → FilterTexts ts texts → HoldTexts new (output ∷ report ∷ []) texts → IsSomeAnd (holds new output) (IsCaptureOf MayLeave)
leaving_held ts [] output report new short are held = absurd are
leaving_held ts (out ∷ []) output report new short are held = absurd are
leaving_held ts (out ∷ text ∷ []) output report new short are held =
    let P : Option (List ℕ) → Type 0 = λ o. IsSomeAnd o (IsCaptureOf MayLeave) in
    subst P (sym held.0) (leaving_capture ts out text are short)
leaving_held ts (out ∷ text ∷ more ∷ texts) output report new short are held = absurd are

front_short : (front rest : List Taken) → All IsShort (front ++ rest) → All IsShort front
front_short front rest short = subst (All IsShort) (take-append_seam front rest) (All-take IsShort (length front) (front ++ rest) short)

-- the records are the first of a capture, and so none has more octets than a record may have
begun_short : (Are : List Taken → List ℕ → Type 0) → Begins Are → (ts : List Taken) (octets : List ℕ) → Are ts octets → All IsShort ts
begun_short Are begins ts octets are =
    let first = begins ts octets are in front_short ts first.rest (Reads-short octets (ts ++ first.rest) first.ending first.reads)

from_held : (held : Option (List ℕ)) (Are : List Taken → List ℕ → Type 0) (output report : List ℕ) (new : Writing) → Begins Are
    → IsSomeAnd held (HoldsAll most_packets FilterTexts (output ∷ report ∷ []) Are new) → IsSomeAnd (holds new output) (IsCaptureOf MayLeave)
from_held None Are output report new begins all = absurd all
from_held (Some octets) Are output report new begins all =
    leaving_held all.taken all.texts output report new (begun_short Are begins all.taken octets all.are) all.texts_are all.held

-- each packet in OUT may leave a domain
module _ (input output report : List ℕ) (old_in new_in : Reading) (old new : Writing) where
  pub Leaves-bounded : (answer : Outcome) → Leaves most_packets FilterTexts (output ∷ report ∷ []) input old_in new_in old new answer
      → IsBehindAll (old_in.side.slots < new_in.side.slots) answer → IsSomeAnd (holds new output) (IsCaptureOf MayLeave)
  Leaves-bounded outcome.Done leaves behind = from_held (holds old input) (EndsSo Whole) output report new (begins_ends Whole) leaves
  Leaves-bounded (outcome.Capture name at fault) leaves behind =
      from_held (holds old input) (EndsSo (Faulty at fault)) output report new (begins_ends (Faulty at fault)) leaves
  Leaves-bounded (outcome.Packets limit) leaves behind = from_held (holds old input) (ArePassed most_packets) output report new (begins_passed most_packets) leaves
  Leaves-bounded (outcome.Exports place fault) leaves behind = absurd leaves
  Leaves-bounded (outcome.Ipfix place fault) leaves behind = absurd leaves
  Leaves-bounded (outcome.Part which place fault) leaves behind = absurd leaves
  Leaves-bounded (outcome.Records limit) leaves behind = absurd leaves
  Leaves-bounded outcome.ReadFault leaves behind = ⊎_elim (λ unopened. absurd (omega (arith, unopened.0, behind)))
      (λ held. from_held (holds old input) (AreWhole (new_in.left old_in.side.slots)) output report new (begins_whole (new_in.left old_in.side.slots)) held.1) leaves
  Leaves-bounded outcome.Usage leaves behind = absurd behind
  Leaves-bounded (outcome.Domain why) leaves behind = absurd behind
  Leaves-bounded (outcome.Readings why) leaves behind = absurd behind
  Leaves-bounded (outcome.Names name) leaves behind = absurd behind
  Leaves-bounded outcome.WriteFault leaves behind = absurd behind
  Leaves-bounded outcome.NoMemory leaves behind = absurd behind

-- two names, each by its place
pub two_names : (names : List (List ℕ)) → length names ≡ 2 → names ≡ name_at names 0 ∷ name_at names 1 ∷ []
two_names [] two = absurd (omega (arith, two))
two_names (a ∷ []) two = absurd (omega (arith, two))
two_names (a ∷ b ∷ []) two = refl
two_names (a ∷ b ∷ c ∷ more) two = absurd (omega (arith, two))
