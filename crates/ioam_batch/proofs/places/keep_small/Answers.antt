use Rattle.std.proofs.Common.{◌≤◌, rules}
use Rattle.std.proofs.lemmas.Fn.{All-from_retain}
use Rattle.ioam_batch.specs.Jobs.{reserved_of}
use Rattle.ioam_batch.specs.declared.job.Job.{Job}
use Rattle.ioam_batch.proofs.places.keep_small.Goals as goal

pub returns-clause-small : goal.returns-clause-small
returns-clause-small c = All-from_retain _ (λ (job : Job). reserved_of job ≤ c.args.most) _ (λ x b f' k. search rules) _ _ c.retain.ensures.filtered
