use Rattle.std.proofs.Common.{◌≡◌, length}
use Rattle.ioam_topo.specs.Domain.{flows, nodes}
use Rattle.ioam_test_way.proofs.plan.reports.takes_all.Given as goal

-- the counters and the sums stay those of the domain
abbrev pub invariant-arrivals : goal.invariant-arrivals
invariant-arrivals l = record {
  counters : length l.counters ≡ length (flows l.domain);
  nodes : length l.told.sums.nodes ≡ length (nodes l.domain);
  flows : length l.told.sums.flows ≡ length (flows l.domain);
}
