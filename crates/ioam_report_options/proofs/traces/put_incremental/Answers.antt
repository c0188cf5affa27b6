use Rattle.std.proofs.Common.{inr, refl}
use Rattle.ioam_report_options.proofs.AppendsLaws.{Appends-text}
use Rattle.ioam_report_options.proofs.SaysLaws.{IncrementalSays-Decodes}
use Rattle.ioam_report_options.proofs.traces.put_incremental.Goals as goal

pub returns-in-Ok : goal.returns-in-Ok
returns-in-Ok c = Appends-text c.put_grown.result _ _ _ _ c.put_grown.ensures (_, IncrementalSays-Decodes c.args.octets.now c.in-Ok.trace c.in-Ok.ensures.decodes, refl)

pub returns-in-Err : goal.returns-in-Err
returns-in-Err c = Appends-text c.put_bad.result _ _ _ _ c.put_bad.ensures (_, inr (_, c.in-Err.ensures.decodes, refl), refl)
