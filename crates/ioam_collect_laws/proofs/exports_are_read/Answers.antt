use Rattle.ioam_collect_laws.proofs.ExportLaws.{exports-read}
use Rattle.ioam_collect_laws.proofs.exports_are_read.Goals as goal

pub returns : goal.returns
returns c = exports-read
