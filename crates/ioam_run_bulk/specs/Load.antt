-- A generated run while its arrivals are taken.
use Rattle.std.specs.Prelude.{◌≡◌, ℕ, ◌<◌, ◌^◌, false, List, []}
use Rattle.std.specs.Borrow.{MutBor}
use Rattle.ioam_clock.specs.declared.sample.Sample.{Sample}
use Rattle.ioam_run_arrivals.specs.Fate.{Frame, Fate, AreFates}
use Rattle.ioam_run_arrivals.specs.Texts.{texts_so_far, ways_of}
use Rattle.ioam_run_arrivals.specs.Forwarding.{Forwards, IsOf, NoneWaits, taken}
use Rattle.ioam_run_arrivals.specs.declared.forwarding.Forwarding.{Forwarding}
use Rattle.ioam_report.specs.Sums.{StandFor}
use Rattle.ioam_report.specs.declared.sums.Sums.{Sums}
use Rattle.ioam_topo.specs.declared.domain.Domain.{Domain}
use Rattle.ioam_run_bulk.specs.Generated.{arrivals, state_at}
use Rattle.ioam_topo_generated.specs.Bulk.{IsBulkDomain}
use Rattle.ioam_run_bulk.specs.Promise.{no_readings}
use Rattle.ioam_run_bulk.specs.declared.load.Load.{Load}
use Rattle.ioam_run_bulk.specs.declared.terms.Terms.{Terms}

-- so many arrivals of a seed were taken in a domain, whatever was told of them
abbrev pub Takes : Domain → List (List Sample) → ℕ → ℕ → Forwarding → Type 0
Takes domain readings seed count gathered = Forwards false domain readings (arrivals seed count) (texts_so_far domain readings []) gathered

-- and the state is that of the next one
pub record Loads (domain : Domain) (readings : List (List Sample)) (seed count : ℕ) (load : Load) : Type 0 where
  pub state : load.state ≡ state_at seed count
  pub count_is : taken load.gathered ≡ count
  pub takes : Takes domain readings seed count load.gathered

-- the sums are those of what becomes of so many arrivals
pub record AreSums (domain : Domain) (readings : List (List Sample)) (seed count : ℕ) (sums : Sums) : Type 0 where
  pub fates : List Fate
  pub become : AreFates domain readings (arrivals seed count) fates
  pub stands : StandFor domain sums (ways_of fates)

-- the jobs that waited were run and forgotten
pub record IsSkipped (domain : Domain) (readings : List (List Sample)) (old new : Forwarding) : Type 0 where
  pub of : IsOf domain new
  pub counted : taken new ≡ taken old
  pub none : NoneWaits new
  pub gathers : (frames : List Frame) (texts : List (List ℕ)) → Forwards false domain readings frames texts old → Forwards false domain readings frames texts new

module _ {F : Type 0} (Pre : F → MutBor Forwarding → Type 0) (Post : F → MutBor Forwarding → Unit {0} → MutBor Forwarding → Type 0) where
  -- the domain is that of a load of this count, no node has a reading, and the closure may be called to run the jobs that wait
  pub record IsSet (terms : Terms F) : Type 0 where
    pub domain : IsBulkDomain terms.count terms.domain.now
    pub readings : terms.readings.now ≡ no_readings terms.domain.now
    pub may_run : (p : MutBor Forwarding) → IsOf terms.domain.now p.now → taken p.now < 2 ^ 33 → Pre terms.run.now p
    pub runs : (p q : MutBor Forwarding) (done : Unit {0}) → IsOf terms.domain.now p.now → Post terms.run.now p done q
        → IsSkipped terms.domain.now terms.readings.now p.now q.now
