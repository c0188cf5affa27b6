use Rattle.ioam_topo.specs.Keyed.{name_of_port}
use Rattle.ioam_topo.proofs.ApartLaws.{apart_by}
use Rattle.ioam_topo_tables.proofs.apart.ports_differ.Goals as goal

pub returns : goal.returns
returns c = apart_by name_of_port c.args.ports.now.items.items c.args.ports.now.names c.requires c.len.ensures.apart
