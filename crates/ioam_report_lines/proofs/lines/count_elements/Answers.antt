use Rattle.std.proofs.Common.{◌*◌, length, drop, inl, ap, arith}
use Rattle.std.proofs.lemmas.List.{length-drop}
use Rattle.ioam_report_lines.proofs.ElementsLaws.{few_elements}
use Rattle.ioam_report_lines.proofs.lines.count_elements.Goals as goal

pub count-requires-clause-fits : goal.count-requires-clause-fits
count-requires-clause-fits c =
    let trace = c.args.trace.now in
    let used = drop (4 * trace.head.remaining) trace.area.now in
    let few = few_elements trace.head.kind trace.head.node_len used in
    let less = length-drop (4 * trace.head.remaining) trace.area.now in
    inl (omega (arith, ap length c.elements.ensures.value))
