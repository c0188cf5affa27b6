use Rattle.ioam_collect_laws.proofs.FlowsLaws.{of_flows}
use Rattle.ioam_collect_laws.proofs.records_are_of_flows.Goals as goal

pub returns : goal.returns
returns c = of_flows
