use Rattle.std.proofs.Common.{◌≡◌, ℕ, subst, arith}
use Rattle.ioam_run_bulk.specs.Load.{Loads}
use Rattle.ioam_run_bulk.proofs.load.take_some.Goals as goal

pub take_next-requires-clause-of : goal.take_next-requires-clause-of
take_next-requires-clause-of g c = c.arrivals.invariant.takes.of

pub take_next-requires-clause-counted : goal.take_next-requires-clause-counted
take_next-requires-clause-counted g c = c.arrivals.invariant.count_is

pub arrivals-preserved : goal.arrivals-preserved
arrivals-preserved g c = c.in_ok-take_next.ensures.loads c.args.terms.now.seed c.arrivals.invariant

pub returns : goal.returns
returns g c =
    let all : c.arrivals.number ≡ c.args.until = omega (arith, c.arrivals.auto.number-end, c.arrivals-test.false) in
    record { loads = subst (λ (n : ℕ). Loads c.args.terms.now.domain.now c.args.terms.now.readings.now c.args.terms.now.seed n c.arrivals.load) all c.arrivals.invariant }
