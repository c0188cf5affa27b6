-- Jobs as they are made.
use Rattle.std.specs.Prelude.{ℕ, ◌≡◌, ◌≤◌, ◌*◌, List}
use Rattle.ioam_batch.specs.Jobs.{HasTaps, Holds, IsJobOf, asked_for, reserved_of}
use Rattle.ioam_batch.specs.declared.job.Job.{Job}
use Rattle.ioam_plan.specs.declared.itinerary.Itinerary.{Itinerary}
use Rattle.ioam_topo.specs.declared.domain.Domain.{Domain}

-- the job is made of this packet and itinerary: it holds in the domain, and has room for what its visits ask for, 17 MiB at most
pub record IsMade (domain : Domain) (packet : List ℕ) (itinerary : Itinerary) (job : Job) : Type 0 where
  pub of : IsJobOf domain packet itinerary job
  pub holds : Holds domain job
  pub taps : HasTaps domain job
  pub reserved : reserved_of job ≡ asked_for domain itinerary job.packet.items
  pub most : reserved_of job ≤ 17 * 1048576
