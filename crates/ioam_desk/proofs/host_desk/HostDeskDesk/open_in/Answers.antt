use Rattle.ioam_desk.proofs.HostLaws.{adds_opened, refused, told}
use Rattle.ioam_desk.proofs.host_desk.HostDeskDesk.open_in.Goals as goal

pub returns-clause-file : goal.returns-clause-file
returns-clause-file g c = adds_opened _ c.make_room.new.self.slots.items _ _ _ _ _ _ _
    c.make_room.ensures.slots c.in_ok-names.ensures.slot c.opened-opened.ensures.opened c.add.ensures.slots

pub returns-clause-said : goal.returns-clause-said
returns-clause-said g c = refused c.opened-opened.result _ _ _ _ _ _ c.opened-opened.ensures.said c.add.ensures.reason c.add.ensures.slots

pub returns-clause-unasked : goal.returns-clause-unasked
returns-clause-unasked g c none = absurd (told c.opened-opened.result _ _ _ _ c.add.ensures.slots none)
