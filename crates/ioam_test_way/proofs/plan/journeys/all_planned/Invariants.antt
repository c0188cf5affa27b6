use Rattle.std.proofs.Common.{◌≡◌, length}
use Rattle.ioam_topo.specs.Domain.{flows}
use Rattle.ioam_test_way.proofs.plan.journeys.all_planned.Given as goal

-- the counters stay those of the domain
abbrev pub invariant-arrivals : goal.invariant-arrivals
invariant-arrivals l = length l.counters ≡ length (flows l.domain)
