use Rattle.std.proofs.Common.{◌-◌, arith, sym, ◌∙◌}
use Rattle.ioam_clock.proofs.GuessLaws.{cut_at, cut_in_force}
use Rattle.ioam_clock.proofs.track.count_until.Goals as goal

pub returns-then-is_in_force-clause-cut : goal.returns-then-is_in_force-clause-cut
returns-then-is_in_force-clause-cut c = cut_at c.args.samples.now c.args.time (c.guess-count.result - 1) c.guess-count.result c.requires
    (omega (arith, c.guess-count.ensures, c.if-count-gt0.true)) (sym c.is_in_force.ensures ∙ c.if-is_in_force.true) (omega (arith, c.if-count-gt0.true))

pub returns-then-is_in_force-2-clause-cut : goal.returns-then-is_in_force-2-clause-cut
returns-then-is_in_force-2-clause-cut c = cut_in_force c.args.samples.now c.args.time c.guess-count.result c.requires
    c.if-count-samples.true (sym c.is_in_force-then-count-samples.ensures ∙ c.if-is_in_force-2.true)
