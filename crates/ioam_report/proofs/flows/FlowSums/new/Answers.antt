use Rattle.std.proofs.Common.{rules}
use Rattle.ioam_report.proofs.FlowsLaws.{none_each}
use Rattle.ioam_report.proofs.flows.FlowSums.new.Goals as goal

pub returns-clause-none : goal.returns-clause-none
returns-clause-none c = none_each c.args.count c.in_ok-held.held.items c.new-none.result (search rules) c.new-none.ensures
