use Rattle.std.proofs.Common.{refl}
use Rattle.ioam_run_arrivals.proofs.ForwardsLaws.{Forwards-begin, IsOf-begin}
use Rattle.ioam_run_arrivals.proofs.forwarding.Forwarding.start.Goals as goal

pub returns-clause-of : goal.returns-clause-of
returns-clause-of c = IsOf-begin c.args.domain.now _ c.in_ok-sums.ensures c.in_ok-counters.ensures c.in_ok-taps.ensures.value c.in_ok-batch.ensures.jobs refl

pub returns-clause-gathers : goal.returns-clause-gathers
returns-clause-gathers c = Forwards-begin c.args.domain.now _ c.in_ok-sums.ensures c.in_ok-counters.ensures c.in_ok-batch.ensures.jobs refl
    (IsOf-begin c.args.domain.now _ c.in_ok-sums.ensures c.in_ok-counters.ensures c.in_ok-taps.ensures.value c.in_ok-batch.ensures.jobs refl)
