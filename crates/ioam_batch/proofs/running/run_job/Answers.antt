use Rattle.ioam_batch.proofs.RunLaws.{taps-fresh, taps-run}
use Rattle.ioam_batch.proofs.SendsLaws.{crossing_is}
use Rattle.ioam_batch.proofs.running.run_job.Goals as goal

pub returns-clause-sent : goal.returns-clause-sent
returns-clause-sent c = λ packet itinerary i visit is found tapped.
    crossing_is c.args.domain.now c.args.readings.now packet itinerary c.args.job.now c.do_visits.new.job i visit is c.do_visits.ensures found tapped

pub returns-clause-taps : goal.returns-clause-taps
returns-clause-taps c = taps-run c.args.domain.now c.args.readings.now c.args.job.now c.do_visits.new.job c.do_visits.ensures
    (taps-fresh c.args.domain.now c.args.job.now c.requires)
