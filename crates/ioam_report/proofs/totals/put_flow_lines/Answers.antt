use Rattle.std.proofs.lemmas.Slice.Zip.{either_empty_from_Zip}
use Rattle.ioam_report.proofs.FlowsLaws.{all_told}
use Rattle.ioam_report.proofs.totals.put_flow_lines.Goals as goal

pub returns : goal.returns
returns c =
    all_told c.loop-flow.out.items _ _ _ (either_empty_from_Zip c.loop-flow.flow-iterator c.next.new.self _ c.in-None.is c.next.ensures.steps) c.loop-flow.invariant.lead
