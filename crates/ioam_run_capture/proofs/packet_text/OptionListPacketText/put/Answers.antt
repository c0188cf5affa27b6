use Rattle.ioam_report_options.proofs.AppendsLaws.{Appends-OnOk}
use Rattle.ioam_run_capture.proofs.packet_text.OptionListPacketText.put.Goals as goal

pub returns : goal.returns
returns c = Appends-OnOk c.put_counted_options.result _ _ _ c.put_counted_options.ensures.lines
