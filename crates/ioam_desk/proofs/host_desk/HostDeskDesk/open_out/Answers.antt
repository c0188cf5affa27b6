use Rattle.std.proofs.Common.{◌⊎◌, List, IfOk, IfErr, subst}
use Rattle.ioam_desk.specs.HostDesk.{IsTakenAnew, IsOfSome, IsSaid}
use Rattle.ioam_desk.specs.HostSide.{IsRefusal}
use Rattle.ioam_desk.specs.declared.host_side.Slot.{Slot}
use Rattle.ioam_desk.proofs.HostLaws.{adds_opened, if_ok_both, refused, told}
use Rattle.ioam_desk.proofs.host_desk.HostDeskDesk.open_out.Goals as goal

pub returns-clause-file : goal.returns-clause-file
returns-clause-file g c = adds_opened _ c.make_room.new.self.slots.items _ _ _ _ _ _ _
    c.make_room.ensures.slots c.in_ok-names.ensures.slot
    (if_ok_both c.created-opened.result _ _ c.created-opened.ensures.created
    (subst (λ (outputs : List (Slot _)). IfOk c.created-opened.result (IsTakenAnew g.R.FileSystem.is_emptied c.args.self.now.inputs.slots.items outputs))
    c.make_room.ensures.slots c.created-opened.ensures.anew))
    c.add.ensures.slots

pub returns-clause-refused : goal.returns-clause-refused
returns-clause-refused g c = refused c.created-opened.result _ _ _ _ _ _
    (subst (λ (outputs : List (Slot _)). IfErr c.created-opened.result (IsRefusal (IsSaid (g.R.FileSystem.is_not_created c.args.name.now) (λ file. g.R.FileSystem.is_created file c.args.name.now) (λ file why. g.R.FileSystem.is_not_identified file why ⊎ g.R.FileSystem.is_not_emptied file why)) (IsOfSome (λ file. g.R.FileSystem.is_created file c.args.name.now) g.R.FileSystem.is_identified) c.args.self.now.inputs.slots.items outputs))
    c.make_room.ensures.slots c.created-opened.ensures.refused)
    c.add.ensures.reason c.add.ensures.slots

pub returns-clause-unasked : goal.returns-clause-unasked
returns-clause-unasked g c none = absurd (told c.created-opened.result _ _ _ _ c.add.ensures.slots none)
