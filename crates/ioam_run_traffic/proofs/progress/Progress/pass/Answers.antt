use Rattle.std.proofs.Common.{◌++◌, ◌∷◌, [], arith}
use Rattle.ioam_run_traffic.proofs.ProgressLaws.{limit_stops}
use Rattle.ioam_run_traffic.proofs.RunsLaws.{left_taken}
use Rattle.ioam_run_traffic.proofs.progress.Progress.pass.Goals as goal

pub returns-then-taken-from-clause-next : goal.returns-then-taken-from-clause-next
returns-then-taken-from-clause-next g c = λ opens seen before so_far time comes runs.
    (before, limit_stops opens c.args.terms.now seen before so_far c.args.self.now c.args.place time comes runs (omega (arith, c.if-taken-from.true)))

pub returns-in-Ok-clause-next : goal.returns-in-Ok-clause-next
returns-in-Ok-clause-next g c = λ opens seen before so_far time comes runs.
    let (one, merging, more) = c.in-Ok.ensures.takes opens _ seen.fed seen.ended before so_far time comes runs in
    (before ++ one ∷ [], (merging, more))

pub returns-in-Ok-clause-left : goal.returns-in-Ok-clause-left
returns-in-Ok-clause-left g c = left_taken c.args.terms.now c.args.self.now.gathered c.take_from.new.self.gathered (omega (arith, c.if-taken-from.false)) c.in-Ok.ensures.counted
