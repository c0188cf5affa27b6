use Rattle.std.proofs.Common.{sym}
use Rattle.ioam_dex.specs.RecordRef.{content}
use Rattle.ioam_collect.proofs.CollectedLaws.{pair_adds, unkeyed_adds}
use Rattle.ioam_collect.proofs.collector.Collector.add.Goals as goal

pub returns-in_default : goal.returns-in_default
returns-in_default c =
    rw (← c.self.view_is) (unkeyed_adds _ _ (content c.args.export.now) (sym c.in_default.ensures.keyed) c.count.ensures)

pub returns : goal.returns
returns c =
    rw (← c.self.view_is) (pair_adds _ _ (content c.args.export.now) _ (sym c.in-Some.ensures.keyed) _
    (rw c.in_ok-item.ensures.value at c.add_keyed.ensures))
