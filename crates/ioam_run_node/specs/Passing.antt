-- What the texts that are gathered for `node` stand for.
use Rattle.std.specs.Prelude.{◌≡◌, ℕ, ◌+◌, All, List, [], ◌∷◌, ◌++◌, length, refl}
use Rattle.std.specs.List.{AllByRecursion, flat_map}
use Rattle.std.proofs.Common.{◌∙◌, ap, append-nil}
use Rattle.std.proofs.lemmas.List.Elements.{All-nil}
use Rattle.ioam_desk_outputs.specs.Told.{said_more}
use Rattle.ioam_pcap.specs.Entries.{Taken}
use Rattle.ioam_pcap.specs.Text.{IsSendable, capture_text}
use Rattle.ioam_run_node.specs.NodeText.{NodeTexts, sent_of, drop_of, export_of, passage_lines, sums_line}
use Rattle.ioam_run_node.specs.Passage.{Passage, ArePassages, LeavesClean}
use Rattle.ioam_run_node.specs.Seat.{Seat, seat_of}
use Rattle.ioam_run_node.specs.declared.passing.Passing.{Passing}

-- OUT, REPORT without its sums, and EXPORTS of these records, of which nothing else becomes, and how many of them are sent and
-- dropped; the node is the one that began
pub record Sorts (seat : Seat) (records : List Taken) (out report exports : List ℕ) (gathered : Passing) : Type 0 where
  pub same : seat_of gathered.post ≡ seat
  pub passages : List Passage
  pub are : ArePassages seat records passages
  pub only : (others : List Passage) → ArePassages seat records others → others ≡ passages
  pub clean : AllByRecursion (LeavesClean seat) passages
  pub fits : All IsSendable (flat_map (sent_of seat) passages)
  pub out_is : out ≡ capture_text (flat_map (sent_of seat) passages)
  pub report_is : report ≡ passage_lines seat 1 passages
  pub exports_is : exports ≡ flat_map (export_of seat) passages
  pub sent_is : gathered.sent ≡ length (flat_map (sent_of seat) passages)
  pub dropped_is : gathered.dropped ≡ length (flat_map drop_of passages)

-- the three texts so far
abbrev pub Gathers : Passing → List Taken → List (List ℕ) → Passing → Type 0
Gathers begun records [] gathered = ⊥
Gathers begun records (out ∷ []) gathered = ⊥
Gathers begun records (out ∷ report ∷ []) gathered = ⊥
Gathers begun records (out ∷ report ∷ exports ∷ []) gathered = Sorts (seat_of begun.post) records out report exports gathered
Gathers begun records (out ∷ report ∷ exports ∷ more ∷ texts) gathered = ⊥

-- the three texts of records at the node where the run began
abbrev pub Texts : Passing → List Taken → List (List ℕ) → Type 0
Texts begun records texts = NodeTexts (seat_of begun.post) records texts

-- of no records
abbrev pub heads : List (List ℕ)
heads = capture_text [] ∷ [] ∷ [] ∷ []

-- what is added behind the last record
abbrev pub sums : Passing → List (List ℕ)
sums gathered = [] ∷ sums_line gathered.sent gathered.dropped ∷ [] ∷ []

-- how many records were taken
abbrev pub taken : Passing → ℕ
taken gathered = gathered.sent + gathered.dropped

-- no record was taken
abbrev pub IsFresh : Passing → Type 0
IsFresh gathered = (gathered.sent ≡ 0) × (gathered.dropped ≡ 0)

-- The laws from here on stand among the definitions, since a ghost member of an `impl` cites specs/ alone.

-- of no records nothing becomes
no_others : (seat : Seat) (others : List Passage) → ArePassages seat [] others → others ≡ []
no_others seat [] are = refl
no_others seat (p ∷ ps) are = absurd are

-- where no record was taken, the texts are those of no records
pub Gathers-begins : (begun : Passing) → IsFresh begun → Gathers begun [] heads begun
Gathers-begins begun fresh = record {
  same = refl;
  passages = [];
  are = tt;
  only = no_others (seat_of begun.post);
  clean = tt;
  fits = All-nil IsSendable;
  out_is = refl;
  report_is = refl;
  exports_is = refl;
  sent_is = fresh.0;
  dropped_is = fresh.1;
}

-- where no record was taken, none is counted
pub IsFresh-none : (gathered : Passing) → IsFresh gathered → taken gathered ≡ 0
IsFresh-none gathered fresh = ap (λ (sent : ℕ). sent + gathered.dropped) fresh.0 ∙ ap (λ (dropped : ℕ). 0 + dropped) fresh.1

-- the texts are whole with the sums
pub Gathers-ends : (begun : Passing) (records : List Taken) (texts : List (List ℕ)) (gathered : Passing)
    → Gathers begun records texts gathered → Texts begun records (said_more texts (sums gathered))
Gathers-ends begun records [] gathered gathers = absurd gathers
Gathers-ends begun records (out ∷ []) gathered gathers = absurd gathers
Gathers-ends begun records (out ∷ report ∷ []) gathered gathers = absurd gathers
Gathers-ends begun records (out ∷ report ∷ exports ∷ []) gathered gathers = record {
  passages = gathers.passages;
  are = gathers.are;
  only = gathers.only;
  clean = gathers.clean;
  fits = gathers.fits;
  out_is = append-nil out ∙ gathers.out_is;
  report_is = ap (λ (lines : List ℕ). lines ++ sums_line gathered.sent gathered.dropped) gathers.report_is
      ∙ ap (λ (sent : ℕ). passage_lines (seat_of begun.post) 1 gathers.passages ++ sums_line sent gathered.dropped) gathers.sent_is
      ∙ ap (λ (dropped : ℕ). passage_lines (seat_of begun.post) 1 gathers.passages
      ++ sums_line (length (flat_map (sent_of (seat_of begun.post)) gathers.passages)) dropped) gathers.dropped_is;
  exports_is = append-nil exports ∙ gathers.exports_is;
}
Gathers-ends begun records (out ∷ report ∷ exports ∷ more ∷ texts) gathered gathers = absurd gathers

-- three texts stand behind the last record, one for each output
pub sums-sized : (gathered : Passing) → length (sums gathered) ≡ 3
sums-sized gathered = refl

-- and they are three
pub heads-sized : length heads ≡ 3
heads-sized = refl
