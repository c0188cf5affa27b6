use Rattle.std.proofs.Common.{nat_eq, map, ap, sym, ◌∙◌, is_some}
use Rattle.ioam_topo.specs.Keyed.{address_of_node}
use Rattle.ioam_topo.specs.Domain.{nodes}
use Rattle.ioam_topo.proofs.KeyLaws.{any_map}
use Rattle.ioam_topo.proofs.PlacesLaws.{is_there}
use Rattle.ioam_topo.proofs.domain.Domain.is_local.Goals as goal

pub returns : goal.returns
returns c = c.contains_key.ensures ∙ ap is_some (c.args.self.now.addresses c.args.target)
    ∙ is_there (nat_eq c.args.target) (map address_of_node (nodes c.args.self.now))
    ∙ sym (any_map (nat_eq c.args.target) address_of_node (nodes c.args.self.now))
