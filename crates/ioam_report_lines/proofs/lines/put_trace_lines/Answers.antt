use Rattle.ioam_report_lines.proofs.LinesLaws.{IsTraceText-trace_lines}
use Rattle.ioam_report_lines.proofs.lines.put_trace_lines.Goals as goal

pub returns-clause-is_text : goal.returns-clause-is_text
returns-clause-is_text c = IsTraceText-trace_lines c.args.octets.now
