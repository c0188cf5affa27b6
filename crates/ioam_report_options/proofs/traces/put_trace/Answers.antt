use Rattle.std.proofs.Common.{inr, refl}
use Rattle.ioam_report_options.proofs.AppendsLaws.{Appends-text}
use Rattle.ioam_report_options.proofs.SaysLaws.{TraceSays-Reads}
use Rattle.ioam_report_options.proofs.traces.put_trace.Goals as goal

pub returns-in-Ok : goal.returns-in-Ok
returns-in-Ok c = Appends-text c.put_whole.result _ _ _ _ c.put_whole.ensures (_, TraceSays-Reads c.args.octets.now c.in-Ok.trace c.in-Ok.ensures.reads, refl)

pub returns-in-Err : goal.returns-in-Err
returns-in-Err c = Appends-text c.put_bad.result _ _ _ _ c.put_bad.ensures (_, inr (_, c.in-Err.ensures.reads, refl), refl)
