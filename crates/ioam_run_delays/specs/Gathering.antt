-- What is gathered for `delays`.
use Rattle.std.specs.Prelude.{◌≡◌, ℕ, ◌*◌, ◌^◌, ◌≤◌, List, [], ◌∷◌, ◌++◌, length, refl}
use Rattle.std.specs.List.{count_by}
use Rattle.std.proofs.Common.{◌∙◌, ap, arith}
use Rattle.ioam_desk_outputs.specs.Told.{said_more}
use Rattle.ioam_delay_counts.specs.Counted.{weight}
use Rattle.ioam_delay_traces.specs.Totals.{AreTotals, courses_of}
use Rattle.ioam_pcap.specs.Entries.{Taken}
use Rattle.ioam_run_delays.specs.DelaysText.{DelaysTexts, is_skipped, report_text, traces_in}
use Rattle.ioam_run_delays.specs.Format.{units_of}
use Rattle.ioam_run_delays.specs.Observation.{Observation, ShowAll}
use Rattle.ioam_run_delays.specs.declared.gathering.Delaying.{Delaying}
use Rattle.ioam_topo.specs.declared.format.Format.{Format}

-- what is counted of these records, which show nothing else
pub record Counts (begun : Delaying) (taken : List Taken) (gathered : Delaying) : Type 0 where
  pub same : gathered.format ≡ begun.format
  pub seen : List Observation
  pub are : ShowAll (units_of begun.format) taken seen
  pub only : (others : List Observation) → ShowAll (units_of begun.format) taken others → others ≡ seen
  pub packets_is : gathered.packets ≡ length seen
  pub skipped_is : gathered.skipped ≡ count_by is_skipped seen
  pub totals_are : AreTotals (traces_in seen) gathered.totals
  -- the traces of a record, and their elements, are no more than its octets
  pub weight_is : weight (courses_of (traces_in seen)) ≤ length seen * 2 ^ 18
  pub many : length (traces_in seen) ≤ length seen * 2 ^ 18

-- REPORT so far is empty
abbrev pub Gathers : Delaying → List Taken → List (List ℕ) → Delaying → Type 0
Gathers begun taken [] gathered = ⊥
Gathers begun taken (text ∷ []) gathered = (text ≡ []) × Counts begun taken gathered
Gathers begun taken (text ∷ more ∷ texts) gathered = ⊥

abbrev pub heads : List (List ℕ)
heads = [] ∷ []

-- all of it is added behind the last record
abbrev pub sums : Delaying → List (List ℕ)
sums gathered = report_text gathered.format gathered.packets gathered.skipped gathered.totals ∷ []

-- how many records were taken
abbrev pub taken : Delaying → ℕ
taken gathered = gathered.packets

-- no record was taken
abbrev pub IsFresh : Delaying → Type 0
IsFresh gathered = (gathered.packets ≡ 0) × (gathered.skipped ≡ 0) × AreTotals [] gathered.totals

-- The laws from here on stand among the definitions, since a ghost member of an `impl` cites specs/ alone.

-- of no records nothing is seen
no_others : (units : ℕ) (others : List Observation) → ShowAll units [] others → others ≡ []
no_others units [] are = refl
no_others units (o ∷ os) are = absurd are

-- where no record was taken, nothing is counted
pub Gathers-begins : (begun : Delaying) → IsFresh begun → Gathers begun [] heads begun
Gathers-begins begun fresh = (
  refl,
  record {
    same = refl;
    seen = [];
    are = tt;
    only = no_others (units_of begun.format);
    packets_is = fresh.0;
    skipped_is = fresh.1;
    totals_are = fresh.2;
    weight_is = omega arith;
    many = omega arith;
  },
)

pub IsFresh-none : (begun : Delaying) → IsFresh begun → taken begun ≡ 0
IsFresh-none begun fresh = fresh.0

-- the text is whole with what is added
pub Gathers-ends : (begun : Delaying) (records : List Taken) (texts : List (List ℕ)) (gathered : Delaying)
    → Gathers begun records texts gathered → DelaysTexts begun.format records (said_more texts (sums gathered))
Gathers-ends begun records [] gathered gathers = absurd gathers
Gathers-ends begun records (text ∷ []) gathered gathers =
    let counts = gathers.1 in
    record {
      seen = counts.seen;
      are = counts.are;
      only = counts.only;
      totals = gathered.totals;
      totals_are = counts.totals_are;
      text_is = ap (λ (before : List ℕ). before ++ report_text gathered.format gathered.packets gathered.skipped gathered.totals) gathers.0
          ∙ ap (λ (format : Format). report_text format gathered.packets gathered.skipped gathered.totals) counts.same
          ∙ ap (λ (packets : ℕ). report_text begun.format packets gathered.skipped gathered.totals) counts.packets_is
          ∙ ap (λ (skipped : ℕ). report_text begun.format (length counts.seen) skipped gathered.totals) counts.skipped_is;
    }
Gathers-ends begun records (text ∷ more ∷ texts) gathered gathers = absurd gathers

-- there is one text, and one is added
pub heads-sized : length heads ≡ 1
heads-sized = refl

pub sums-sized : (gathered : Delaying) → length (sums gathered) ≡ 1
sums-sized gathered = refl
