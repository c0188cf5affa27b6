use Rattle.std.proofs.Common.{◌∙◌}
use Rattle.ioam_topo.proofs.PrefixLaws.{masked_ones}
use Rattle.ioam_topo.proofs.masks.mask_of.Goals as goal

pub returns : goal.returns
returns c = c.masked.ensures ∙ masked_ones c.args.length
