use Rattle.std.proofs.Common.{sym, ◌∙◌}
use Rattle.ioam_explain.proofs.FirstLaws.{at_end, at_none, at_reason}
use Rattle.ioam_explain.proofs.rows.first_broken.Goals as goal

pub returns-in-Some : goal.returns-in-Some
returns-in-Some c = sym (c.loop-row.invariant ∙ at_reason c.args.rows.now c.loop-row.row-index c.in-Some.reason c.in-Some.is)

pub loop-row-preserved : goal.loop-row-preserved
loop-row-preserved c = c.loop-row.invariant ∙ at_none c.args.rows.now c.loop-row.row-index c.in_default.is

pub returns : goal.returns
returns c = sym (c.loop-row.invariant ∙ at_end c.args.rows.now c.loop-row.row-index c.loop-row-test.false)
