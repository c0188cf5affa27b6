use Rattle.ioam_collect_laws.proofs.WholeLaws.{fronts-read}
use Rattle.ioam_collect_laws.proofs.fronts_are_read.Goals as goal

pub returns : goal.returns
returns c = fronts-read
