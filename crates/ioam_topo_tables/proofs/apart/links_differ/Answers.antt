use Rattle.ioam_topo.specs.Keyed.{name_of_link}
use Rattle.ioam_topo.proofs.ApartLaws.{apart_by}
use Rattle.ioam_topo_tables.proofs.apart.links_differ.Goals as goal

pub returns : goal.returns
returns c = apart_by name_of_link c.args.links.now.items.items c.args.links.now.names c.requires c.len.ensures.apart
