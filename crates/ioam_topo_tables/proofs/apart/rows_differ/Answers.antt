use Rattle.ioam_topo.specs.Keyed.{key_of_data}
use Rattle.ioam_topo.proofs.ApartLaws.{apart_by, pairs_differ}
use Rattle.ioam_topo_tables.proofs.apart.rows_differ.Goals as goal

pub returns : goal.returns
returns c = apart_by key_of_data c.args.rows.now.items.items c.args.rows.now.taken.keys c.requires (pairs_differ c.args.rows.now.taken.keys c.len.ensures.unique)
