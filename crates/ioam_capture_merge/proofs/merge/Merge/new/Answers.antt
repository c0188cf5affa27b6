use Rattle.std.proofs.Common.{false, refl, rules}
use Rattle.ioam_capture_merge.proofs.MergeLaws.{more_merged}
use Rattle.ioam_capture_merge.proofs.merge.Merge.new.Goals as goal

pub captures-preserved : goal.captures-preserved
captures-preserved c = more_merged c.captures-2._index c.captures-2.merge _ (record { reader = c.in_ok-reader.reader; ended = false }) c.captures-2.invariant
    c.in_ok-reader.ensures.stands refl (search rules) (search rules)
