use Rattle.ioam_leak_flows.proofs.LineLaws.{appended_line}
use Rattle.ioam_leak_flows.proofs.lines.put_others.Goals as goal

pub returns : goal.returns
returns c = appended_line c.append-2.result c.args.others c.args.out.now.items _ _ _ c.if-others-eq0.false c.in_ok-append.ensures c.in_ok-append_decimal.ensures c.append-2.ensures
