use Rattle.std.proofs.Common.{ap, sym, ◌∙◌}
use Rattle.ioam_base.specs.Words.{four_octets, eight_octets}
use Rattle.ioam_dex.specs.Room.{Room, appended}
use Rattle.ioam_dex.specs.Visit.{visit_octets}
use Rattle.ioam_dex.proofs.RoomLaws.{appended_twice}
use Rattle.ioam_dex.proofs.room.ExportRoom.visit_if.Goals as goal

pub returns-in-Some : goal.returns-in-Some
returns-in-Some c =
    let time = eight_octets c.in-Some.time in
    let inward = four_octets c.in-Some.inward in
    c.four.ensures
    ∙ ap (λ (r : Room). appended r inward) c.eight.ensures
    ∙ appended_twice c.args.self.now time inward
    ∙ ap (λ v. appended c.args.self.now (visit_octets v)) (sym c.in-Some.is)
