use Rattle.ioam_topo.specs.Keyed.{name_of_node, id_of_node, address_of_node}
use Rattle.ioam_topo.proofs.ApartLaws.{apart_by, numbers_differ}
use Rattle.ioam_topo_tables.proofs.apart.nodes_differ.Goals as goal

pub returns : goal.returns
returns c = record {
  names = apart_by name_of_node c.args.nodes.now.items.items c.args.nodes.now.names c.requires.named c.len.ensures.apart;
  ids = apart_by id_of_node c.args.nodes.now.items.items c.args.nodes.now.ids.keys c.requires.numbered
      (numbers_differ c.args.nodes.now.ids.keys c.len-3.ensures.unique);
  addresses = apart_by address_of_node c.args.nodes.now.items.items c.args.nodes.now.addresses.keys c.requires.placed
      (numbers_differ c.args.nodes.now.addresses.keys c.len-5.ensures.unique);
}
