use Rattle.std.proofs.Common.{rules, Some, None}
use Rattle.ioam_topo.specs.Domain.{nodes}
use Rattle.ioam_topo.proofs.PlacesLaws.{node_named}
use Rattle.ioam_topo.proofs.domain.Domain.node_named.Goals as goal

pub returns-in-Some-clause-value : goal.returns-in-Some-clause-value
returns-in-Some-clause-value c = node_named (nodes c.args.self.now) c.args.name.now (Some c.in-Some.at) (search rules)

pub returns-in-None-clause-value : goal.returns-in-None-clause-value
returns-in-None-clause-value c = node_named (nodes c.args.self.now) c.args.name.now None (search rules)
