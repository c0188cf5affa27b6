use Rattle.ioam_collect_laws.proofs.WholeLaws.{tells-run}
use Rattle.ioam_collect_laws.proofs.exports_tell_paths.Goals as goal

pub returns : goal.returns
returns c = tells-run
