-- Batches: jobs that are run together.
use Rattle.std.specs.Prelude.{ℕ, ◌≡◌, ◌≤◌, ◌⊎◌, Bool, false, ◌&&◌, nat_lt, List, All, drop, length, sum_by, take}
use Rattle.ioam_batch.specs.Jobs.{HasRun, reserved_of}
use Rattle.ioam_batch.specs.declared.job.Job.{Job}
use Rattle.ioam_clock.specs.declared.sample.Sample.{Sample}
use Rattle.ioam_topo.specs.declared.domain.Domain.{Domain}

-- the jobs that are run together, and jobs that were told, in whose memory others are made
pub record Batched : Type 0 where
  pub jobs : List Job
  pub kept : List Job

-- the job as its visits leave it, or as it was
abbrev pub MayRun : Domain → List (List Sample) → Job → Job → Type 0
MayRun domain readings old new = HasRun domain readings old new ⊎ (new ≡ old)

-- how many octets these jobs have room for
abbrev pub all_reserved : List Job → ℕ
all_reserved jobs = sum_by reserved_of jobs

-- one job more may be pushed: there are fewer than 256, and less than 64 MiB is reserved
abbrev pub has_room : List Job → Bool
has_room jobs = nat_lt (length jobs) 256 && nat_lt (all_reserved jobs) 67108864

-- a job whose memory is kept for one to come has 65,536 octets reserved at most
abbrev pub IsSmall : Job → Type 0
IsSmall job = reserved_of job ≤ 65536

-- in a vector with so many places stand these jobs; so many of them wait, which have so many octets reserved; the others are small,
-- and so are these unless one may be large
pub record IsBatch (jobs : List Job) (places count reserved : ℕ) (has_large : Bool) : Type 0 where
  pub within : count ≤ length jobs
  pub room : places ≡ 256
  pub summed : reserved ≡ all_reserved (take count jobs)
  pub kept : All IsSmall (drop count jobs)
  pub unless_large : has_large ≡ false → All IsSmall (take count jobs)
