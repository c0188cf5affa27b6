use Rattle.std.proofs.Common.{ap, length}
use Rattle.ioam_dex.proofs.RefLaws.{content-rec}
use Rattle.ioam_part.proofs.taking.size_of.Goals as goal

pub returns : goal.returns
returns c = ap length (content-rec c.args.export.now).is
