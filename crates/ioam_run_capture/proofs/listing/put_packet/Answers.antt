use Rattle.std.proofs.Common.{◌++◌, List, ℕ, ap, ◌∙◌, refl}
use Rattle.std.proofs.lemmas.Bool.{false≢true}
use Rattle.ioam_base.proofs.ResultLaws.{OnOk-map}
use Rattle.ioam_run_capture.proofs.ListingLaws.{packet_listed, packet_skipped}
use Rattle.ioam_run_capture.proofs.listing.put_packet.Goals as goal

pub returns-in_ok-append_decimal-in-Whole : goal.returns-in_ok-append_decimal-in-Whole
returns-in_ok-append_decimal-in-Whole g c =
    OnOk-map c.put.result _ _ c.put.ensures
    (λ told. packet_listed g.L.PacketText.tells c.args.number c.args.packet.now c.args.out.now.items c.put.new.out.items told.0
    (c.in-Whole.ensures.whole.0 refl)
    told.1 (told.2 ∙ ap (λ (front : List ℕ). front ++ told.0) c.in_ok-append_decimal-in-Whole.ensures))

pub returns-in-Bad : goal.returns-in-Bad
returns-in-Bad g c = OnOk-map c.put_skip.result _ _ c.put_skip.ensures
    (λ is. packet_skipped g.L.PacketText.tells c.args.number c.args.packet.now c.args.out.now.items c.put_skip.new.out.items
    (λ sound. false≢true (c.in-Bad.ensures.whole.1 sound)) is)
