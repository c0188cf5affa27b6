use Rattle.std.proofs.Common.{rules, map, refl}
use Rattle.ioam_topo.specs.Domain.{node_data}
use Rattle.ioam_topo.specs.Keyed.{key_of_data}
use Rattle.ioam_topo.proofs.FindingLaws.{data_found, data_missing}
use Rattle.ioam_topo.proofs.domain.Domain.node_data.Goals as goal

pub returns-in-Some-clause-value : goal.returns-in-Some-clause-value
returns-in-Some-clause-value c = data_found (node_data c.args.self.now) (map key_of_data (node_data c.args.self.now)) c.args.node.0 c.args.namespace.0
    refl c.in-Some.at c.row.result.now (search rules) c.row.ensures

pub returns-in-None-clause-value : goal.returns-in-None-clause-value
returns-in-None-clause-value c = data_missing (node_data c.args.self.now) (map key_of_data (node_data c.args.self.now)) c.args.node.0 c.args.namespace.0 refl (search rules)
