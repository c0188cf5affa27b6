use Rattle.std.proofs.Common.{◌++◌, ap, ◌∙◌, append_assoc, length}
use Rattle.ioam_pcap.specs.Text.{record_head}
use Rattle.ioam_pcap.proofs.put.append_record.Goals as goal

pub returns-in-Ok : goal.returns-in-Ok
returns-in-Ok c =
    let headed = c.in_ok-append.ensures ∙ ap (λ head. c.args.out.now.items ++ head) c.record_head.ensures in
    c.in-Ok.ensures ∙ ap (λ items. items ++ c.args.packet.now) headed
    ∙ append_assoc c.args.out.now.items (record_head c.args.time (length c.args.packet.now)) c.args.packet.now
