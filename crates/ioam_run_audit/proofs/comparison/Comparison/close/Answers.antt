use Rattle.std.proofs.Common.{arith, refl}
use Rattle.ioam_run_audit.proofs.ComparisonLaws.{after_size, closes, counts_few}
use Rattle.ioam_run_audit.proofs.comparison.Comparison.close.Goals as goal

pub verdict_by-verdict-requires-clause-some : goal.verdict_by-verdict-requires-clause-some
verdict_by-verdict-requires-clause-some c =
    let standing = c.requires.stands in
    omega (arith, after_size standing.begun standing.seen standing.stands.fates c.args.self.now standing.stands.core)

pub verdict_by-verdict-requires-clause-few : goal.verdict_by-verdict-requires-clause-few
verdict_by-verdict-requires-clause-few c =
    let standing = c.requires.stands in
    omega (arith, standing.stands.core.after.count_is, standing.stands.core.after.few)

pub put_behind-requires : goal.put_behind-requires
put_behind-requires c =
    let standing = c.requires.stands in
    counts_few standing.begun standing.seen standing.stands.fates c.args.self.now standing.stands.core

pub returns : goal.returns
returns c = closes c.args.self.now c.args.outputs.now c.index-outputs-0.result _ c.verdict_by-verdict.result c.requires.width c.requires.closing refl c.verdict_by-verdict.ensures c.in-Ok.ensures
