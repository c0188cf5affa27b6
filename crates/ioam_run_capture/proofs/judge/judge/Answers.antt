use Rattle.std.proofs.Common.{sym, ◌∙◌, subst}
use Rattle.ioam_run_stream.specs.Reader.{taken_of}
use Rattle.ioam_ip.specs.Framing.{Framing, Holds, IfHolds}
use Rattle.ioam_ip.specs.Packet.{IsPacket}
use Rattle.ioam_run_capture.specs.Judgement.{verdict_of}
use Rattle.ioam_run_capture.specs.Verdict.{Drops, FramingVerdict}
use Rattle.ioam_ip.proofs.WithinLaws.{held-within}
use Rattle.ioam_run_capture.proofs.VerdictLaws.{FramingVerdict-drop, IsWithin-le, only_verdict}
use Rattle.ioam_run_capture.proofs.judge.judge.Goals as goal

pub judge_packet-requires : goal.judge_packet-requires
judge_packet-requires c =
    let P : Framing → Type 0 = λ f. IfHolds f (λ packet. IsPacket packet) in
    subst P c.in-Ok.ensures.packet c.framed.ensures.packet

pub returns-in-Ok-clause-verdict : goal.returns-in-Ok-clause-verdict
returns-in-Ok-clause-verdict c =
    let P : Framing → Type 0 = λ f. FramingVerdict f (verdict_of c.judge_packet.result) in
    subst P (sym c.in-Ok.ensures.packet ∙ c.framed.ensures.framing) c.judge_packet.ensures.verdict

pub returns-in-Ok-clause-within : goal.returns-in-Ok-clause-within
returns-in-Ok-clause-within c =
    IsWithin-le _ _ _ (held-within _ _ _ _ (sym c.in-Ok.ensures.packet ∙ c.framed.ensures.framing)) c.judge_packet.ensures.within

pub returns-in-Ok-clause-only : goal.returns-in-Ok-clause-only
returns-in-Ok-clause-only c = λ verdict has.
    only_verdict (taken_of c.args.link c.args.captured.now) (Holds c.in-Ok.packet.now) (verdict_of c.judge_packet.result) verdict
    (sym c.in-Ok.ensures.packet ∙ c.framed.ensures.framing) c.judge_packet.ensures.verdict has

pub returns-in-Err-clause-verdict : goal.returns-in-Err-clause-verdict
returns-in-Err-clause-verdict c =
    let P : Framing → Type 0 = λ f. FramingVerdict f (Drops c.in-Err.reason) in
    subst P c.framed.ensures.framing (FramingVerdict-drop _ c.in-Err.reason c.in-Err.ensures.reason)

pub returns-in-Err-clause-only : goal.returns-in-Err-clause-only
returns-in-Err-clause-only c = λ verdict has.
    only_verdict (taken_of c.args.link c.args.captured.now) _ (Drops c.in-Err.reason) verdict
    c.framed.ensures.framing (FramingVerdict-drop _ c.in-Err.reason c.in-Err.ensures.reason) has
