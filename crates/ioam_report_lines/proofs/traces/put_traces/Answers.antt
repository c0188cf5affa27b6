use Rattle.ioam_report_lines.proofs.TracesLaws.{TracesText-traces_text}
use Rattle.ioam_report_lines.proofs.traces.put_traces.Goals as goal

pub returns-in_err-put_count-clause-is_text : goal.returns-in_err-put_count-clause-is_text
returns-in_err-put_count-clause-is_text c = TracesText-traces_text c.args.packet.now c.requires.sound

pub returns-clause-is_text : goal.returns-clause-is_text
returns-clause-is_text c = TracesText-traces_text c.args.packet.now c.requires.sound
