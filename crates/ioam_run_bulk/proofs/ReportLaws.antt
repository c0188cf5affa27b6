-- Laws of the report.
use Rattle.std.proofs.Common.{◌≡◌, ℕ, ◌<◌, List, [], ◌∷◌, ◌++◌, length, get_or, set, ap, subst, arith}
use Rattle.ioam_clock.specs.declared.sample.Sample.{Sample}
use Rattle.ioam_run_arrivals.specs.Fate.{AreFates}
use Rattle.ioam_run_arrivals.proofs.OneFateLaws.{AreFates-unique}
use Rattle.ioam_topo_generated.specs.Bulk.{IsBulkDomain, bulk_ports}
use Rattle.ioam_desk_outputs.specs.declared.output.Output.{Output}
use Rattle.ioam_desk_outputs.specs.Told.{Adds}
use Rattle.ioam_run_arrivals.specs.Itinerary.{Itinerary}
use Rattle.ioam_report.specs.Sums.{StandFor}
use Rattle.ioam_report.specs.SumsText.{sums_text, arrivals_text}
use Rattle.ioam_report.specs.declared.sums.Sums.{Sums}
use Rattle.ioam_topo.specs.Domain.{ports}
use Rattle.ioam_topo.specs.declared.domain.Domain.{Domain}
use Rattle.ioam_run_bulk.specs.Generated.{arrivals}
use Rattle.ioam_run_bulk.specs.Load.{AreSums}
use Rattle.ioam_run_bulk.specs.Promise.{IsReport, no_readings}

pub IsReport-of : (seed count : ℕ) (domain : Domain) (readings : List (List Sample)) (sums : Sums) → IsBulkDomain count domain
    → readings ≡ no_readings domain → AreSums domain readings seed count sums
    → ((ways : List Itinerary) → StandFor domain sums ways → sums_text domain sums ≡ arrivals_text domain ways) → IsReport seed count (sums_text domain sums)
IsReport-of seed count domain readings sums is none are gives =
    let become : AreFates domain (no_readings domain) (arrivals seed count) are.fates =
    subst (λ (rs : List (List Sample)). AreFates domain rs (arrivals seed count) are.fates) none are.become in
    record {
      domain = domain;
      fates = are.fates;
      is_domain = is;
      become = become;
      only = λ others also. AreFates-unique domain (no_readings domain) (arrivals seed count) others are.fates also become;
      text_is = gives _ are.stands;
    }

-- octets that are gathered for one output
pub Adds-one : (outputs : List Output) (d after : Output) (added : List ℕ) → length outputs ≡ 1
    → after.slot ≡ (get_or outputs 0 d).slot → after.gathered.items ≡ (get_or outputs 0 d).gathered.items ++ added
    → Adds outputs (set outputs 0 after) (added ∷ [])
Adds-one [] d after added one slot is = absurd (omega (arith, one))
Adds-one (x ∷ []) d after added one slot is = (slot, is, tt)
Adds-one (x ∷ y ∷ outputs) d after added one slot is = absurd (omega (arith, one))

-- the domain has a first port
pub first-port : (count : ℕ) (domain : Domain) → IsBulkDomain count domain → 0 < length (ports domain)
unfolding bulk_ports
first-port count domain is = let two : length (ports domain) ≡ length bulk_ports = ap length is.ports_are in omega (arith, two)
