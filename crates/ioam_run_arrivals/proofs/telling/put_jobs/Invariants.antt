use Rattle.std.proofs.Common.{◌≡◌, ◌+◌, length, take}
use Rattle.ioam_run_outputs.specs.Outlets.{outlet_count}
use Rattle.ioam_run_arrivals.specs.Forwarding.{TellsJobs}
use Rattle.ioam_run_arrivals.proofs.telling.put_jobs.Given as goal

-- the jobs so far are told
abbrev pub invariant-jobs : goal.invariant-jobs
invariant-jobs l = record {
  number : l.number ≡ l.told + l.job-index;
  width : length l.outputs ≡ outlet_count l.domain;
  tells : TellsJobs l.domain l.told (take l.job-index l.jobs) l.initial.outputs l.outputs;
}
