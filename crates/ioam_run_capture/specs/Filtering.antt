-- What the texts that are gathered for `filter` stand for.
use Rattle.std.specs.Prelude.{◌≡◌, ℕ, ◌+◌, List, [], ◌∷◌, ◌++◌, length, refl}
use Rattle.std.proofs.Common.{◌∙◌, ap, append-nil}
use Rattle.ioam_desk_outputs.specs.Told.{said_more}
use Rattle.ioam_pcap.specs.Entries.{Taken}
use Rattle.ioam_pcap.specs.Text.{capture_text}
use Rattle.ioam_run_capture.specs.Verdict.{Verdict, AreVerdicts}
use Rattle.ioam_run_capture.specs.FilterText.{kept_of, verdict_lines, count_kept, count_dropped, sums_line, FilterTexts}
use Rattle.ioam_run_capture.specs.declared.filtering.Filtering.{Filtering}

-- the capture and the lines of these records, which have no other verdicts, and how many of them are
-- kept and dropped
pub record Sorts (records : List Taken) (out report : List ℕ) (gathered : Filtering) : Type 0 where
  pub verdicts : List Verdict
  pub are : AreVerdicts records verdicts
  pub only : (others : List Verdict) → AreVerdicts records others → others ≡ verdicts
  pub out_is : out ≡ capture_text (kept_of records verdicts)
  pub report_is : report ≡ verdict_lines 1 verdicts
  pub kept_is : gathered.kept ≡ count_kept verdicts
  pub dropped_is : gathered.dropped ≡ count_dropped verdicts

-- OUT and REPORT so far, without the sums
abbrev pub Gathers : List Taken → List (List ℕ) → Filtering → Type 0
Gathers records [] gathered = ⊥
Gathers records (out ∷ []) gathered = ⊥
Gathers records (out ∷ report ∷ []) gathered = Sorts records out report gathered
Gathers records (out ∷ report ∷ more ∷ texts) gathered = ⊥

-- of no records
abbrev pub heads : List (List ℕ)
heads = capture_text [] ∷ [] ∷ []

-- what is added behind the last record
abbrev pub sums : Filtering → List (List ℕ)
sums gathered = [] ∷ sums_line gathered.kept gathered.dropped ∷ []

-- how many records were taken
abbrev pub taken : Filtering → ℕ
taken gathered = gathered.kept + gathered.dropped

-- no record was taken
abbrev pub IsFresh : Filtering → Type 0
IsFresh gathered = (gathered.kept ≡ 0) × (gathered.dropped ≡ 0)

-- The laws from here on stand among the definitions, since a ghost member of an `impl` cites specs/ alone.

-- of no records there are no verdicts
no_others : (others : List Verdict) → AreVerdicts [] others → others ≡ []
no_others [] are = refl
no_others (v ∷ vs) are = absurd are

-- where no record was taken, the texts are those of no records
pub Gathers-begins : (gathered : Filtering) → IsFresh gathered → Gathers [] heads gathered
Gathers-begins gathered fresh = record {
  verdicts = [];
  are = tt;
  only = no_others;
  out_is = refl;
  report_is = refl;
  kept_is = fresh.0;
  dropped_is = fresh.1;
}

-- where no record was taken, none is counted
pub IsFresh-none : (gathered : Filtering) → IsFresh gathered → taken gathered ≡ 0
IsFresh-none gathered fresh = ap (λ (kept : ℕ). kept + gathered.dropped) fresh.0 ∙ ap (λ (dropped : ℕ). 0 + dropped) fresh.1

-- the texts are whole with the sums
pub Gathers-ends : (records : List Taken) (texts : List (List ℕ)) (gathered : Filtering) → Gathers records texts gathered
    → FilterTexts records (said_more texts (sums gathered))
Gathers-ends records [] gathered gathers = absurd gathers
Gathers-ends records (out ∷ []) gathered gathers = absurd gathers
Gathers-ends records (out ∷ report ∷ []) gathered gathers = record {
  verdicts = gathers.verdicts;
  are = gathers.are;
  only = gathers.only;
  out_is = append-nil out ∙ gathers.out_is;
  report_is = ap (λ (lines : List ℕ). lines ++ sums_line gathered.kept gathered.dropped) gathers.report_is
      ∙ ap (λ (kept : ℕ). verdict_lines 1 gathers.verdicts ++ sums_line kept gathered.dropped) gathers.kept_is
      ∙ ap (λ (dropped : ℕ). verdict_lines 1 gathers.verdicts ++ sums_line (count_kept gathers.verdicts) dropped) gathers.dropped_is;
}
Gathers-ends records (out ∷ report ∷ more ∷ texts) gathered gathers = absurd gathers

-- two texts stand behind the last record, one for each output
pub sums-sized : (gathered : Filtering) → length (sums gathered) ≡ 2
sums-sized gathered = refl

-- and they are two
pub heads-sized : length heads ≡ 2
heads-sized = refl
