use Rattle.std.proofs.lemmas.Slice.Zip.{either_empty_from_Zip}
use Rattle.ioam_report.proofs.SumsLaws.{all_told}
use Rattle.ioam_report.proofs.totals.put_node_lines.Goals as goal

pub returns : goal.returns
returns c =
    all_told c.loop-node.out.items _ _ _ (either_empty_from_Zip c.loop-node.node-iterator c.next.new.self _ c.in-None.is c.next.ensures.steps) c.loop-node.invariant.lead
