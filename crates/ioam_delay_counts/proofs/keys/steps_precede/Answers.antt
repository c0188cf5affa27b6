use Rattle.std.proofs.Common.{◌≤◌, length, ◌∙◌, sym, arith}
use Rattle.ioam_delay_counts.proofs.CountLaws.{longer, shorter}
use Rattle.ioam_delay_counts.proofs.keys.steps_precede.Goals as goal
use Rattle.ioam_delay_counts.proofs.keys.steps_precede.Goals.{then-steps-test+else-at-others, else-steps-test}

pub returns-then-at-ones : goal.returns-then-at-ones
returns-then-at-ones c =
    let past : length c.args.others.now ≤ c.steps.at =
    elim c.steps-test.branch [ then-steps-test+else-at-others w ↦ w.if-at-others.false | else-steps-test w ↦ absurd (omega (arith, w.steps-test.false, c.if-at-ones.true)) ] in
    sym (c.steps.invariant.2 ∙ longer c.args.rest c.args.ones.now c.args.others.now c.steps.at c.if-at-ones.true past)

pub returns-then-at-others-2 : goal.returns-then-at-others-2
returns-then-at-others-2 c =
    sym (c.steps.invariant.2 ∙ shorter c.args.rest c.args.ones.now c.args.others.now c.steps.at c.if-at-ones.false c.if-at-others-2.true)
