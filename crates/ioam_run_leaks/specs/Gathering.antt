-- What the texts that are gathered for `leaks` stand for.
use Rattle.std.specs.Prelude.{◌≡◌, ℕ, List, [], ◌∷◌, ◌++◌, length, refl}
use Rattle.std.proofs.Common.{◌∙◌, ap, append-nil}
use Rattle.ioam_desk_outputs.specs.Told.{said_more}
use Rattle.ioam_leaks.specs.declared.finding.Finding.TheVariants.{Clean, Leaks, Hides}
use Rattle.ioam_leak_flows.specs.Tally.{IsTally}
use Rattle.ioam_leak_flows.specs.declared.flow.Flow.{Flow}
use Rattle.ioam_pcap.specs.Entries.{Taken}
use Rattle.ioam_pcap.specs.Text.{capture_text, record_octets}
use Rattle.ioam_run_leaks.specs.Counting.{all_of, counts_of, none}
use Rattle.ioam_run_leaks.specs.LeaksText.{LeaksTexts, flow_of, flows_of, found_lines, leaking_of, totals_text}
use Rattle.ioam_run_leaks.specs.Observation.{Observation, Sees, Misses, ShowAll}
use Rattle.ioam_run_leaks.specs.declared.counts.Counts.{Counts}
use Rattle.ioam_run_leaks.specs.declared.gathering.Leaking.{Leaking}

-- what a record adds to OUT
abbrev pub found_octets : ℕ → Observation → List ℕ
found_octets time (Sees packet (Leaks how)) = record_octets time packet
found_octets time (Sees packet Clean) = []
found_octets time (Sees packet (Hides why)) = []
found_octets time (Misses why) = []

-- its flow, if it leaks
abbrev pub found_flows : Observation → List Flow
found_flows (Sees packet (Leaks how)) = flow_of packet how ∷ []
found_flows (Sees packet Clean) = []
found_flows (Sees packet (Hides why)) = []
found_flows (Misses why) = []

-- the capture and the lines of these records, which show nothing else, and how many of them are of each kind and of each flow
pub record Finds (records : List Taken) (out report : List ℕ) (gathered : Leaking) : Type 0 where
  pub seen : List Observation
  pub are : ShowAll records seen
  pub only : (others : List Observation) → ShowAll records others → others ≡ seen
  pub out_is : out ≡ capture_text (leaking_of records seen)
  pub report_is : report ≡ found_lines 1 seen
  pub counts_are : gathered.counts ≡ counts_of seen
  pub tallied : IsTally (flows_of seen) gathered.flows

-- OUT and REPORT so far, without what follows the lines of records
abbrev pub Gathers : List Taken → List (List ℕ) → Leaking → Type 0
Gathers records [] gathered = ⊥
Gathers records (out ∷ []) gathered = ⊥
Gathers records (out ∷ report ∷ []) gathered = Finds records out report gathered
Gathers records (out ∷ report ∷ more ∷ texts) gathered = ⊥

-- of no records
abbrev pub heads : List (List ℕ)
heads = capture_text [] ∷ [] ∷ []

-- what is added behind the last record
abbrev pub sums : Leaking → List (List ℕ)
sums gathered = [] ∷ totals_text gathered.counts gathered.flows.counts.entries ∷ []

-- how many records were taken
abbrev pub taken : Leaking → ℕ
taken gathered = all_of gathered.counts

-- no record was taken
abbrev pub IsFresh : Leaking → Type 0
IsFresh gathered = (gathered.counts ≡ none) × IsTally [] gathered.flows

-- The laws from here on stand among the definitions, since a ghost member of an `impl` cites specs/ alone.

-- of no records nothing is seen
no_others : (others : List Observation) → ShowAll [] others → others ≡ []
no_others [] are = refl
no_others (o ∷ os) are = absurd are

-- where no record was taken, the texts are those of no records
pub Gathers-begins : (gathered : Leaking) → IsFresh gathered → Gathers [] heads gathered
Gathers-begins gathered fresh = record {
  seen = [];
  are = tt;
  only = no_others;
  out_is = refl;
  report_is = refl;
  counts_are = fresh.0;
  tallied = fresh.1;
}

-- where no record was taken, none is counted
pub IsFresh-none : (gathered : Leaking) → IsFresh gathered → taken gathered ≡ 0
IsFresh-none gathered fresh = ap all_of fresh.0

-- the texts are whole with the totals
pub Gathers-ends : (records : List Taken) (texts : List (List ℕ)) (gathered : Leaking) → Gathers records texts gathered
    → LeaksTexts records (said_more texts (sums gathered))
Gathers-ends records [] gathered gathers = absurd gathers
Gathers-ends records (out ∷ []) gathered gathers = absurd gathers
Gathers-ends records (out ∷ report ∷ []) gathered gathers = record {
  seen = gathers.seen;
  are = gathers.are;
  only = gathers.only;
  out_is = append-nil out ∙ gathers.out_is;
  report_is = ap (λ (lines : List ℕ). lines ++ totals_text gathered.counts gathered.flows.counts.entries) gathers.report_is
      ∙ ap (λ (counts : Counts). found_lines 1 gathers.seen ++ totals_text counts gathered.flows.counts.entries) gathers.counts_are
      ∙ ap (λ (rows : List (Flow × ℕ)). found_lines 1 gathers.seen ++ totals_text (counts_of gathers.seen) rows) gathers.tallied;
}
Gathers-ends records (out ∷ report ∷ more ∷ texts) gathered gathers = absurd gathers

-- two texts stand behind the last record, one for each output
pub sums-sized : (gathered : Leaking) → length (sums gathered) ≡ 2
sums-sized gathered = refl

-- and they are two
pub heads-sized : length heads ≡ 2
heads-sized = refl
