use Rattle.std.proofs.Common.{sym}
use Rattle.ioam_dex.specs.RecordRef.{content}
use Rattle.ioam_collect.proofs.CollectedLaws.{collected, pair_full, one_more}
use Rattle.ioam_collect.proofs.collector.Collector.is_full_for.Goals as goal

pub returns-clause-full : goal.returns-clause-full
returns-clause-full c =
    rw (← c.self.view_is) (pair_full (collected c.self.inside.store c.self.inside.read c.self.inside.unkeyed) (content c.args.export.now) _
    (sym c.in-Some.ensures.keyed) _ c.is_full_for.ensures)

pub returns-clause-more : goal.returns-clause-more
returns-clause-more c xs stands = one_more c.args.self.now xs stands (content c.args.export.now) _ (returns-clause-full c)
