-- What the texts that are gathered for a run stand for.
use Rattle.std.specs.Prelude.{◌≡◌, ℕ, ◌+◌, ◌<◌, Bool, IsTrue, List, [], ◌++◌, IsSomeAnd, All, length, slice_get}
use Rattle.std.specs.List.{AllZip}
use Rattle.ioam_batch.specs.Batches as batches
use Rattle.ioam_batch.specs.Jobs.{Holds, IsFresh, IsJobOf}
use Rattle.ioam_batch.specs.declared.job.Job.{Job}
use Rattle.ioam_clock.specs.declared.sample.Sample.{Sample}
use Rattle.ioam_run_texts.specs.Fate.{Frame, Fate, HasFate, AreFates, CanRide}
use Rattle.ioam_run_texts.specs.Texts.{texts_of, texts_so_far, ways_of}
use Rattle.ioam_run_texts.specs.Told.{RanFor}
use Rattle.ioam_run_texts.specs.Clean.{MayLeave}
use Rattle.ioam_run_outputs.specs.Outlets.{tapped}
use Rattle.ioam_desk_outputs.specs.Told.{Adds, said_more}
use Rattle.ioam_desk_outputs.specs.declared.output.Output.{Output}
use Rattle.ioam_pcap.specs.Reader.{entry_of}
use Rattle.ioam_pcap.specs.Text.{IsCaptureOf}
use Rattle.ioam_plan.specs.Counted.{CountFor}
use Rattle.ioam_plan.specs.declared.itinerary.Itinerary.{Itinerary}
use Rattle.ioam_report.specs.Sums.{StandFor}
use Rattle.ioam_topo.specs.Domain.{links, ports}
use Rattle.ioam_topo.specs.declared.domain.Domain.{Domain}
use Rattle.ioam_run_arrivals.specs.declared.arriving.Arrival.{Arrival}
use Rattle.ioam_run_arrivals.specs.declared.forwarding.Forwarding.{Forwarding}

-- an arrival by its port, its layer and its record
abbrev pub frame_of : Arrival → Frame
frame_of arrival = record { port = arrival.port; layer = arrival.layer; entry = entry_of arrival.captured }

-- sums, numbers and jobs are those of some arrivals in the domain
pub record IsOf (domain : Domain) (gathered : Forwarding) : Type 0 where
  pub ways : List Itinerary
  pub stands : StandFor domain gathered.sums ways
  pub counted : CountFor domain gathered.counters ways
  pub taps : gathered.taps.items ≡ tapped (links domain)
  pub fresh : All (IsFresh domain) gathered.batch.jobs
  pub holds : All (Holds domain) gathered.batch.jobs
  pub count : gathered.told + length gathered.batch.jobs ≡ gathered.sums.packets

-- the job of what becomes of an arrival, of which no visit is done
pub record IsWaiting (domain : Domain) (fate : Fate) (job : Job) : Type 0 where
  pub rides : CanRide domain fate
  pub of : IsJobOf domain fate.packet fate.itinerary job

-- the job of an arrival behind these, and what becomes of that
pub record Arrived (domain : Domain) (readings : List (List Sample)) (earlier : List Itinerary) (frame : Frame) (job : Job) : Type 0 where
  pub fate : Fate
  pub has : HasFate domain readings earlier frame fate
  pub waits : IsWaiting domain fate job

-- Behind the texts of so many arrivals these are the texts of what the jobs are of, if these ran.
abbrev pub AreOfJobs : Domain → ℕ → List Job → List (List ℕ) → Type 0
AreOfJobs domain count jobs added = (readings : List (List Sample)) (front fates : List Fate) → length front ≡ count
    → AllZip (RanFor domain readings) fates jobs → said_more (texts_so_far domain readings front) added ≡ texts_so_far domain readings (front ++ fates)

-- such texts were added to the outputs
abbrev pub TellsJobs : Domain → ℕ → List Job → List Output → List Output → Type 0
TellsJobs domain count jobs old new = (added : List (List ℕ)) × Adds old new added × AreOfJobs domain count jobs added

-- Of what becomes of these arrivals some was told, in these texts, and for the rest the jobs wait. Where the gate may stay
-- shut it isn't known what was told.
pub record Forwards (opens : Bool) (domain : Domain) (readings : List (List Sample)) (frames : List Frame) (texts : List (List ℕ))
    (gathered : Forwarding) : Type 0 where
  pub told : List Fate
  pub waiting : List Fate
  pub are : AreFates domain readings frames (told ++ waiting)
  pub texts_are : IsTrue opens → texts ≡ texts_so_far domain readings told
  pub count : gathered.told ≡ length told
  pub sums : StandFor domain gathered.sums (ways_of (told ++ waiting))
  pub counted : CountFor domain gathered.counters (ways_of (told ++ waiting))
  pub jobs : AllZip (IsWaiting domain) waiting gathered.batch.jobs
  pub of : IsOf domain gathered

-- The texts of these arrivals, with the sums. What leaves by the ports of the domain is one packet each, with a whole
-- chain of headers and no IOAM option on it.
pub record Forwarded (opens : Bool) (domain : Domain) (readings : List (List Sample)) (frames : List Frame) (texts : List (List ℕ)) : Type 0 where
  pub fates : List Fate
  pub are : AreFates domain readings frames fates
  pub texts_are : IsTrue opens → texts ≡ texts_of domain readings fates
  pub clean : IsTrue opens → (port : ℕ) → port < length (ports domain) → IsSomeAnd (slice_get texts port) (IsCaptureOf MayLeave)

-- how many arrivals were taken
abbrev pub taken : Forwarding → ℕ
taken gathered = gathered.sums.packets

-- none of them waits
abbrev pub NoneWaits : Forwarding → Type 0
NoneWaits gathered = gathered.batch.jobs ≡ []

-- one more may be taken before what waits is told
abbrev pub has_room : Forwarding → Bool
has_room gathered = batches.has_room gathered.batch.jobs
