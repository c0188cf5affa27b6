use Rattle.ioam_run_texts.proofs.LeavingLaws.{last_visit}
use Rattle.ioam_run_texts.proofs.leaving.last_time.Goals as goal

pub returns-in-Some : goal.returns-in-Some
returns-in-Some c = last_visit c.args.visits.now c.in-Some.visit.now c.in-Some.ensures.value
