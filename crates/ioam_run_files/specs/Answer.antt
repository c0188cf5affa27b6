-- What a run answers that isn't set.
use Rattle.ioam_run_answer.specs.declared.outcome.Outcome.{Outcome}
use Rattle.ioam_run_answer.specs.declared.outcome.Outcome.TheVariants as outcome
use Rattle.ioam_run_files.specs.declared.setting.Refusal.{Refusal}
use Rattle.ioam_run_files.specs.declared.setting.Refusal.TheVariants as refusal

-- the answer to a refusal of what a run is set by
abbrev pub refused_as : Refusal → Outcome
refused_as (refusal.Domain fault) = outcome.Domain fault
refused_as (refusal.Readings fault) = outcome.Readings fault
refused_as refusal.ReadFault = outcome.ReadFault
refused_as refusal.NoMemory = outcome.NoMemory
