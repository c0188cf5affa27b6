use Rattle.std.proofs.Common.{◌∙◌}
use Rattle.ioam_topo_entries.proofs.KeyLaws.{listed_keys}
use Rattle.ioam_topo_entries.proofs.keys.keys_listed.Goals as goal

pub returns : goal.returns
returns c = c.all_listed.ensures ∙ listed_keys c.args.table c.args.entry.now.entries
