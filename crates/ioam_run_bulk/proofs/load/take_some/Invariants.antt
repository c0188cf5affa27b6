use Rattle.ioam_run_bulk.specs.Load.{Loads}
use Rattle.ioam_run_bulk.proofs.load.take_some.Given as goal

-- the arrivals before this one were taken
abbrev pub invariant-arrivals : goal.invariant-arrivals
invariant-arrivals g l = Loads l.terms.domain.now l.terms.readings.now l.terms.seed l.number l.load
