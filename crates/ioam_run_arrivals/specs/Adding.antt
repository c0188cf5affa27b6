-- Arrivals that are made into jobs.
use Rattle.std.specs.Prelude.{ℕ, List, [], ◌∷◌, ◌++◌}
use Rattle.ioam_batch.specs.Jobs.{Holds, IsFresh}
use Rattle.ioam_batch.specs.declared.job.Job.{Job}
use Rattle.ioam_clock.specs.declared.sample.Sample.{Sample}
use Rattle.ioam_plan.specs.Counted.{CountFor}
use Rattle.ioam_plan.specs.declared.itinerary.Itinerary.{Itinerary}
use Rattle.ioam_topo.specs.declared.domain.Domain.{Domain}
use Rattle.ioam_run_arrivals.specs.Forwarding.{Arrived, frame_of}
use Rattle.ioam_run_arrivals.specs.declared.arriving.Arrival.{Arrival}

-- the job of an arrival, of which no visit is done; what was counted before it stands for the arrivals before, and what is
-- counted behind it for these and this one.
pub record IsAdded (domain : Domain) (readings : List (List Sample)) (before behind : List ℕ) (arrival : Arrival) (job : Job) : Type 0 where
  pub fresh : IsFresh domain job
  pub holds : Holds domain job
  pub counted : (earlier : List Itinerary) → CountFor domain before earlier → CountFor domain behind (earlier ++ job.itinerary ∷ [])
  pub arrived : (earlier : List Itinerary) → CountFor domain before earlier → Arrived domain readings earlier (frame_of arrival) job
