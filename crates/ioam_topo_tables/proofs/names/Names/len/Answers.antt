use Rattle.std.proofs.Common.{subst}
use Rattle.ioam_topo.proofs.ApartLaws.{Differ}
use Rattle.ioam_topo_tables.proofs.ApartLaws.{texts_differ}
use Rattle.ioam_topo_tables.proofs.names.Names.len.Goals as goal

pub returns-clause-apart : goal.returns-clause-apart
returns-clause-apart c = subst Differ c.self.view_is (texts_differ c.self.inside.held.keys c.len.ensures.unique)
