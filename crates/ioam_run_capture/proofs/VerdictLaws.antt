-- A record has one verdict only.
use Rattle.std.proofs.Common.{◌≡◌, ℕ, ◌≤◌, List, [], ◌∷◌, length, Some, arith, refl, sym, ap, ◌∙◌, subst}
use Rattle.ioam_ip.specs.Framing.{Framing, Holds, NoIpv6, CutShort, TooShort}
use Rattle.ioam_node.specs.Admission.{reason_of}
use Rattle.ioam_node.specs.Order.{NoneHolds}
use Rattle.ioam_node.specs.declared.reason.Reason.{Reason}
use Rattle.ioam_node.proofs.OrderLaws.{first-holds, first-unique}
use Rattle.ioam_pcap.specs.Entries.{Taken}
use Rattle.ioam_run_capture.specs.Verdict.{Verdict, Keeps, Drops, drops, PacketVerdict, FramingVerdict, HasVerdict, AreVerdicts}
use Rattle.ioam_run_capture.specs.Judgement.{IsWithin}
use Rattle.ioam_run_stream.specs.Frame.{taken_framing}

module _ (packet : List ℕ) where
  none_drops : (kept : List ℕ) → PacketVerdict packet (Keeps kept) → NoneHolds (drops packet)
  none_drops kept keeps = ((λ bad. bad keeps.1), ((λ ioam. keeps.2 ioam.1), tt))

  one_verdict : (first other : Verdict) → PacketVerdict packet first → PacketVerdict packet other → first ≡ other
  one_verdict (Keeps a) (Keeps b) x y = ap (λ (p : List ℕ). Keeps p) (x.0 ∙ sym y.0)
  one_verdict (Keeps a) (Drops why) x y = absurd (first-holds (drops packet) why y (none_drops a x))
  one_verdict (Drops why) (Keeps b) x y = absurd (first-holds (drops packet) why x (none_drops b y))
  one_verdict (Drops why) (Drops other) x y = ap (λ (r : Reason). Drops r) (first-unique (drops packet) why other x y)

-- of a frame
one_of_frame : (framing : Framing) (first other : Verdict) → FramingVerdict framing first → FramingVerdict framing other → first ≡ other
one_of_frame (Holds packet) first other x y = one_verdict packet first other x y
one_of_frame NoIpv6 first other x y = x ∙ sym y
one_of_frame CutShort first other x y = x ∙ sym y
one_of_frame TooShort first other x y = x ∙ sym y

-- a frame that holds no packet is dropped for its reason
pub FramingVerdict-drop : (framing : Framing) (why : Reason) → reason_of framing ≡ Some why → FramingVerdict framing (Drops why)
FramingVerdict-drop (Holds packet) why is = absurd (cc is)
FramingVerdict-drop NoIpv6 why is = cc is
FramingVerdict-drop CutShort why is = cc is
FramingVerdict-drop TooShort why is = cc is

-- a record that gives this frame has no other verdict than one of the frame
pub only_verdict : (t : Taken) (framing : Framing) (first other : Verdict) → framing ≡ taken_framing t
    → FramingVerdict framing first → HasVerdict t other → first ≡ other
only_verdict t framing first other is x y =
    let P : Framing → Type 0 = λ f. FramingVerdict f other in
    one_of_frame framing first other x (subst P (sym is) y)

-- and records one list of verdicts
pub AreVerdicts-unique : (ts : List Taken) (verdicts others : List Verdict) → AreVerdicts ts verdicts → AreVerdicts ts others → verdicts ≡ others
AreVerdicts-unique [] [] [] first second = refl
AreVerdicts-unique [] [] (other ∷ others) first second = absurd second
AreVerdicts-unique [] (verdict ∷ verdicts) others first second = absurd first
AreVerdicts-unique (t ∷ ts) [] others first second = absurd first
AreVerdicts-unique (t ∷ ts) (verdict ∷ verdicts) [] first second = absurd second
AreVerdicts-unique (t ∷ ts) (verdict ∷ verdicts) (other ∷ others) first second =
    let here : verdict ≡ other = only_verdict t (taken_framing t) verdict other refl first.0 second.0 in
    let behind : verdicts ≡ others = AreVerdicts-unique ts verdicts others first.1 second.1 in
    cc

-- a bound on a kept packet, passed on
pub IsWithin-le : (v : Verdict) (packet frame : List ℕ) → length packet ≤ length frame → IsWithin v packet → IsWithin v frame
IsWithin-le (Keeps kept) packet frame short within = omega (arith, short, within)
IsWithin-le (Drops reason) packet frame short within = tt
