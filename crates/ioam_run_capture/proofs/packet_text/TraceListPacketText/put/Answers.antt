use Rattle.ioam_report_lines.specs.TracesText.{traces_text}
use Rattle.ioam_base.proofs.ResultLaws.{OnOk-map}
use Rattle.ioam_run_capture.proofs.ListingLaws.{appended}
use Rattle.ioam_run_capture.proofs.packet_text.TraceListPacketText.put.Goals as goal

pub returns : goal.returns
returns c = OnOk-map c.put_traces.result _ _
    (appended c.put_traces.result c.args.out.now.items c.put_traces.new.out.items (traces_text c.args.packet.now) c.put_traces.ensures.text)
    (λ is. (traces_text c.args.packet.now, c.put_traces.ensures.is_text, is))
