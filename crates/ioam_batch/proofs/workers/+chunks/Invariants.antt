use Rattle.std.specs.Prelude.{◌+◌, ◌-◌, ◌*◌, length}
use Rattle.ioam_batch.proofs.workers.+chunks.Given as goal

abbrev pub decreases-run_chunks : goal.decreases-run_chunks
decreases-run_chunks g l = 4 * length l.jobs.now

abbrev pub decreases-run_beside : goal.decreases-run_beside
decreases-run_beside g l = 4 * (length l.first.now + length l.others.now) - 1

abbrev pub decreases-run_beside-back : goal.decreases-run_beside-back
decreases-run_beside-back g l = 4 * length l.others.now + 1
