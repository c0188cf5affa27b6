use Rattle.std.proofs.Common.{rules, Some, None}
use Rattle.ioam_topo.specs.Domain.{links}
use Rattle.ioam_topo.proofs.PlacesLaws.{link_named}
use Rattle.ioam_topo.proofs.domain.Domain.link_named.Goals as goal

pub returns-in-Some-clause-value : goal.returns-in-Some-clause-value
returns-in-Some-clause-value c = link_named (links c.args.self.now) c.args.name.now (Some c.in-Some.at) (search rules)

pub returns-in-None-clause-value : goal.returns-in-None-clause-value
returns-in-None-clause-value c = link_named (links c.args.self.now) c.args.name.now None (search rules)
