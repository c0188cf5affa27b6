use Rattle.std.proofs.Common.{sym, ◌∙◌, subst}
use Rattle.ioam_ip.specs.Framing.{Framing, Holds, IfHolds}
use Rattle.ioam_ip.specs.Packet.{IsPacket}
use Rattle.ioam_ip.proofs.WithinLaws.{held-within}
use Rattle.ioam_run_stream.specs.Reader.{taken_of}
use Rattle.ioam_run_node.specs.Judged.{passage_of}
use Rattle.ioam_run_node.specs.Passage.{Drops}
use Rattle.ioam_run_node.specs.Seat.{seat_of}
use Rattle.ioam_run_node.proofs.PassageLaws.{FramingPassage-drop, IsFit-le, framed_so}
use Rattle.ioam_run_node.proofs.post.Post.judge.Goals as goal

pub judge_packet-requires : goal.judge_packet-requires
judge_packet-requires c =
    let P : Framing → Type 0 = λ f. IfHolds f (λ packet. IsPacket packet) in
    subst P c.in-Ok.ensures.packet c.framed.ensures.packet

pub returns-in-Ok-clause-passage : goal.returns-in-Ok-clause-passage
returns-in-Ok-clause-passage c =
    let time = c.args.captured.now.time in
    framed_so (seat_of c.args.self.now) (taken_of c.args.link c.args.captured.now) (Holds c.in-Ok.packet.now) (passage_of time c.judge_packet.result)
    (sym c.in-Ok.ensures.packet ∙ c.framed.ensures.framing) (c.judge_packet.ensures.passage time)

pub returns-in-Ok-clause-fit : goal.returns-in-Ok-clause-fit
returns-in-Ok-clause-fit c =
    IsFit-le (seat_of c.args.self.now) c.in-Ok.packet.now c.args.captured.now.octets.now c.judge_packet.result
    (held-within _ _ _ _ (sym c.in-Ok.ensures.packet ∙ c.framed.ensures.framing)) c.judge_packet.ensures.fit

pub returns-in-Err-clause-passage : goal.returns-in-Err-clause-passage
returns-in-Err-clause-passage c =
    framed_so (seat_of c.args.self.now) (taken_of c.args.link c.args.captured.now) _ (Drops c.in-Err.reason)
    c.framed.ensures.framing (FramingPassage-drop (seat_of c.args.self.now) c.args.captured.now.time _ c.in-Err.reason c.in-Err.ensures.reason)
