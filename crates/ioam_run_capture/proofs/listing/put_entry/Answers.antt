use Rattle.std.proofs.Common.{sym, ◌∙◌, subst}
use Rattle.ioam_ip.specs.Framing.{Framing, IfHolds}
use Rattle.ioam_ip.specs.Packet.{IsPacket}
use Rattle.ioam_base.proofs.ResultLaws.{OnOk-map}
use Rattle.ioam_run_capture.specs.ListText.{FramingLines, skip_line}
use Rattle.ioam_run_capture.proofs.ListingLaws.{FramingLines-skip}
use Rattle.ioam_run_capture.proofs.listing.put_entry.Goals as goal

pub put_packet-requires : goal.put_packet-requires
put_packet-requires g c =
    let P : Framing → Type 0 = λ f. IfHolds f (λ packet. IsPacket packet) in
    subst P c.in-Ok.ensures.packet c.framed.ensures.packet

pub returns-in-Ok : goal.returns-in-Ok
returns-in-Ok g c = OnOk-map c.put_packet.result _ _ c.put_packet.ensures
    (λ added. let P : Framing → Type 0 = λ framing. FramingLines g.L.PacketText.tells c.args.number framing added.0 in
    (added.0, subst P (sym c.in-Ok.ensures.packet ∙ c.framed.ensures.framing) added.1, added.2))

pub returns-in-Err : goal.returns-in-Err
returns-in-Err g c = OnOk-map c.put_skip.result _ _ c.put_skip.ensures
    (λ is. let P : Framing → Type 0 = λ framing. FramingLines g.L.PacketText.tells c.args.number framing (skip_line c.args.number c.in-Err.reason) in (
      skip_line c.args.number c.in-Err.reason,
      subst P c.framed.ensures.framing (FramingLines-skip g.L.PacketText.tells c.args.number _ c.in-Err.reason c.in-Err.ensures.reason),
      is,
    ))
