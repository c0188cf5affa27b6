use Rattle.std.proofs.Common.{Bool, List, false, get_or, slice_get, ap, ◌∙◌}
use Rattle.ioam_batch.specs.Crossings.{crossings, joined}
use Rattle.ioam_batch.proofs.CrossingLaws.{none-said, some-at, some-said}
use Rattle.ioam_batch.proofs.job.Job.crossing.Goals as goal

pub returns-clause-tapped : goal.returns-clause-tapped
returns-clause-tapped c = λ domain has.
    let held = c.args.self.now.crossings in
    some-said (λ octets. octets.now) c.at.result (joined (slice_get (crossings held) c.args.visit)) c.at.ensures.sent
    ∙ some-at held.past held.ahead c.args.visit
    ∙ ap (λ (taps : List Bool). get_or taps c.args.visit false) has

pub returns-clause-before : goal.returns-clause-before
returns-clause-before c = λ domain fresh.
    let held = c.args.self.now.crossings in
    none-said (λ octets. octets.now) c.at.result held.past held.ahead c.args.visit fresh.past c.at.ensures.sent
