-- What a reader of either form stands for.
use Rattle.std.proofs.Common.{◌≡◌, ℕ, ◌+◌, ◌<◌, ◌≤◌, ◌^◌, false, List, [], ◌++◌, length, Option, Some, None, arith, sym, ap, ◌∙◌, subst, inl, inr, append_assoc}
use Rattle.std.proofs.lemmas.List.{append-nil, length-map}
use Rattle.ioam_pcap.specs.declared.form.Form.{Form}
use Rattle.ioam_pcap.specs.Ending.{Ending}
use Rattle.ioam_pcap.specs.Entries.{Entry, Taken}
use Rattle.ioam_pcap.specs.Reads.{Reached, link_by}
use Rattle.ioam_pcap.specs.Reader as classic
use Rattle.ioam_pcap.proofs.StandsLaws as classic_laws
use Rattle.ioam_ng.proofs.LaterLaws as ng_later
use Rattle.ioam_ng.proofs.SizeLaws as ng_laws
use Rattle.ioam_capture.specs.Reading.{Reading, Front, Classic, Ng, fed, HoldsFew}
use Rattle.ioam_capture.specs.Reads.{IsClassicly, of_link, Reads}
use Rattle.ioam_capture.specs.Reader.{Stands, Waits}
use Rattle.ioam_capture.specs.Streams.{ShowsSo}
use Rattle.ioam_capture.proofs.ClassicLaws.{Classic-total, Classic-short, Classic-begins, Classic-cut}
use Rattle.ioam_capture.proofs.NgLaws.{Ng-waits}
use Rattle.ioam_capture.proofs.ReadsLaws.{Reads-total, Reads-later}

-- what a reader has given begins all that the octets read as
pub Stands-first : (reader : Reading) (octets : List ℕ) (taken : List Taken) → Stands reader octets taken
    → (all : List Taken) (ending : Ending) → Reads octets all ending → (more : List Taken) × (all ≡ taken ++ more)
Stands-first (Front held) octets taken stands all ending reads = (all, ap (λ xs. xs ++ all) (sym stands.2))
Stands-first (Classic reader) octets taken stands all ending (inl ng) = absurd (stands.0 ng.0)
Stands-first (Classic reader) octets taken stands all ending (inr x) =
    let (entries, stood, is) = stands.2 in
    let (more, same) = Classic-begins reader octets entries stood all ending x.1 in
    (more, same ∙ ap (λ xs. xs ++ more) (sym is))
Stands-first (Ng reader) octets taken stands all ending (inl x) = ng_later.Stands-begins reader octets taken stands.1 all ending x.1
Stands-first (Ng reader) octets taken stands all ending (inr x) = absurd (x.0 stands.0)

-- records of some octets begin those of more
goes_on : (octets more : List ℕ) (xs all : List Taken) (d e : Ending) → Reads octets xs d → Reads (octets ++ more) all e → (rest : List Taken) × (all ≡ xs ++ rest)
goes_on octets more xs all d e x y = elim (Reads-later octets more xs all d e x y) [
  | inl on ↦ on.1
  | inr same ↦ ([], same.0 ∙ sym (append-nil xs))
]

-- and all that they read as with others behind them
pub Stands-begins : (reader : Reading) (octets : List ℕ) (taken : List Taken) → Stands reader octets taken
    → (more : List ℕ) (all : List Taken) (ending : Ending) → Reads (octets ++ more) all ending → (rest : List Taken) × (all ≡ taken ++ rest)
Stands-begins reader octets taken stands more all ending reads =
    let (now, end, here) = Reads-total octets in
    let (left, first) = Stands-first reader octets taken stands now end here in
    let (others, joined) = goes_on octets more now all end ending here reads in
    (left ++ others, joined ∙ ap (λ xs. xs ++ others) first ∙ append_assoc taken left others)

-- what was handed out so far shows the first records of the whole file
pub Shows-front : (octets more : List ℕ) (taken all : List Taken) (known : Option Ending) (ending : Ending) → ShowsSo octets false taken known → Reads (octets ++ more) all ending
    → (rest : List Taken) × (all ≡ taken ++ rest)
Shows-front octets more taken all known ending shows reads = goes_on octets more taken all shows.ending ending shows.reads reads

-- octets of which fewer than four are there
short_shows : (octets : List ℕ) → length octets < 4 → ShowsSo octets false [] None
short_shows octets short =
    let (taken, ending, reads) = Classic-total octets in
    let none = Classic-short octets taken ending short reads in
    record {
      ending = ending;
      reads = inr (λ ng. omega (arith, short, ng.0), subst (λ xs. IsClassicly octets xs ending) none.0 reads);
      known_is = sym none.1;
    }

-- where the reader waits, the octets show what it has given and no more
pub Stands-shows : (reader : Reading) (octets : List ℕ) (taken : List Taken) → Stands reader octets taken → Waits reader → ShowsSo octets false taken None
Stands-shows (Front held) octets taken stands waits = subst (λ xs. ShowsSo octets false xs None) (sym stands.2) (short_shows octets stands.1)
Stands-shows (Classic reader) octets taken stands waits =
    let (entries, stood, is) = stands.2 in
    let (ending, reads, cut) = Classic-cut reader octets entries stood (classic_laws.CutAt-waits reader octets entries stood waits) in
    let shows : ShowsSo octets false (of_link (classic.link_of reader) entries) None = record { ending = ending; reads = inr (stands.0, reads); known_is = sym cut } in
    subst (λ xs. ShowsSo octets false xs None) (sym is) shows
Stands-shows (Ng reader) octets taken stands waits =
    let (ending, reads, cut) = Ng-waits reader octets taken stands.1 waits in
    record { ending = ending; reads = inl (stands.0, reads); known_is = sym cut }

-- then it holds back less than the form's greatest record or block
pub Waits-few : (reader : Reading) → Waits reader → HoldsFew reader
Waits-few (Front held) waits = waits
Waits-few (Classic reader) waits = classic_laws.Waits-few reader waits
Waits-few (Ng reader) waits = ng_laws.Waits-few reader waits

-- there are as many records with their link as without
count_of : (form : Option Form) (octets : List ℕ) (entries : List Entry) (at : ℕ) → Reached octets form entries at → length (of_link (link_by form) entries) ≡ length entries
count_of None octets entries at reached = ap length (sym reached.0)
count_of (Some form) octets entries at reached = length-map entries _

-- a reader that holds few and has given no more records than a run may takes in a piece more
pub Stands-room : (reader : Reading) (octets : List ℕ) (taken : List Taken) → Stands reader octets taken → length taken ≤ 16777216 → HoldsFew reader → fed reader + 65536 < 2 ^ 63
Stands-room (Front held) octets taken stands few holds = omega (arith, holds)
Stands-room (Classic reader) octets taken stands few holds =
    let (entries, stood, is) = stands.2 in
    let count = count_of reader.form octets entries reader.start stood.reached in
    omega (arith, few, holds, ap length is, count, classic_laws.Stands-start reader octets entries stood)
Stands-room (Ng reader) octets taken stands few holds = omega (arith, holds, ng_laws.Stands-start reader octets taken stands.1)
