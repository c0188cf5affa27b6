use Rattle.ioam_topo.specs.Keyed.{key_of_route}
use Rattle.ioam_topo.proofs.ApartLaws.{apart_by, prefixes_differ}
use Rattle.ioam_topo_tables.proofs.apart.routes_differ.Goals as goal

pub returns : goal.returns
returns c = apart_by key_of_route c.args.routes.now.items.items c.args.routes.now.taken.keys c.requires (prefixes_differ c.args.routes.now.taken.keys c.len.ensures.unique)
