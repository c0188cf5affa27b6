-- A record shows one thing only.
use Rattle.std.proofs.Common.{◌≡◌, List, [], ◌∷◌, sym, ◌∙◌, refl, subst}
use Rattle.ioam_ip.specs.Framing.{Framing, Holds, NoIpv6, CutShort, TooShort}
use Rattle.ioam_leaks.proofs.FindingLaws.{one_finding}
use Rattle.ioam_pcap.specs.Entries.{Taken}
use Rattle.ioam_run_stream.specs.Frame.{taken_framing}
use Rattle.ioam_run_leaks.specs.Observation.{Observation, Sees, Misses, FramingShows, Shows, ShowAll}

one_of_frame : (framing : Framing) (first other : Observation) → FramingShows framing first → FramingShows framing other → first ≡ other
one_of_frame (Holds packet) (Sees one finding) (Sees another found) x y =
    let same : one ≡ another = x.0 ∙ sym y.0 in
    let finds : finding ≡ found = one_finding packet found y.2 finding x.2 in
    λ i. Sees (same i) (finds i)
one_of_frame (Holds packet) (Sees one finding) (Misses why) x y = absurd y
one_of_frame (Holds packet) (Misses why) other x y = absurd x
one_of_frame NoIpv6 first other x y = x ∙ sym y
one_of_frame CutShort first other x y = x ∙ sym y
one_of_frame TooShort first other x y = x ∙ sym y

-- a record that gives this frame shows nothing else than the frame
pub only_shows : (t : Taken) (framing : Framing) (first other : Observation) → framing ≡ taken_framing t
    → FramingShows framing first → Shows t other → first ≡ other
only_shows t framing first other is x y =
    one_of_frame framing first other x (subst (λ (f : Framing). FramingShows f other) (sym is) y)

-- and records show one list
pub ShowAll-unique : (ts : List Taken) (seen others : List Observation) → ShowAll ts seen → ShowAll ts others → seen ≡ others
ShowAll-unique [] [] [] first second = refl
ShowAll-unique [] [] (other ∷ others) first second = absurd second
ShowAll-unique [] (o ∷ seen) others first second = absurd first
ShowAll-unique (t ∷ ts) [] others first second = absurd first
ShowAll-unique (t ∷ ts) (o ∷ seen) [] first second = absurd second
ShowAll-unique (t ∷ ts) (o ∷ seen) (other ∷ others) first second =
    let here : o ≡ other = only_shows t (taken_framing t) o other refl first.0 second.0 in
    let behind : seen ≡ others = ShowAll-unique ts seen others first.1 second.1 in
    cc
