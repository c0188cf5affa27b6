use Rattle.std.proofs.Common.{Some, None}
use Rattle.ioam_topo.specs.Domain.{flows}
use Rattle.ioam_topo.proofs.IndexLaws.{flow_is}
use Rattle.ioam_topo.proofs.domain.Domain.flow_at.Goals as goal

pub returns-in-Some-clause-value : goal.returns-in-Some-clause-value
returns-in-Some-clause-value c = flow_is (flows c.args.self.now) c.flows.result.now c.flows_at-places.result.now c.args.node.0 c.args.header.now.source c.args.header.now.target (Some c.in-Some.at)
    c.flows.ensures.value c.flows_at-places.ensures c.in-Some.ensures.value

pub returns-in-None-clause-value : goal.returns-in-None-clause-value
returns-in-None-clause-value c = flow_is (flows c.args.self.now) c.flows.result.now c.flows_at-places.result.now c.args.node.0 c.args.header.now.source c.args.header.now.target None
    c.flows.ensures.value c.flows_at-places.ensures c.in-None.ensures.value
