use Rattle.std.proofs.Common.{sym, subst}
use Rattle.ioam_part_merge.specs.Keeping.{Keeping, Keeps}
use Rattle.ioam_part_merge.proofs.keeper.PartKeeper.finish.Goals as goal

pub returns-in-Ok : goal.returns-in-Ok
returns-in-Ok c = λ octets keeps.
    let inside : Keeping = record { reader = c.self.inside.reader; octets = c.self.inside.octets.items } in
    let was : Keeps octets inside = subst (Keeps octets) (sym c.self.view_is) keeps in
    let held = c.in-Ok.ensures 0 octets was.stands in
    (was.kept, (held.0, held.1))

pub returns-in-Err-Full : goal.returns-in-Err-Full
returns-in-Err-Full c = λ octets keeps.
    let inside : Keeping = record { reader = c.self.inside.reader; octets = c.self.inside.octets.items } in
    let was : Keeps octets inside = subst (Keeps octets) (sym c.self.view_is) keeps in
    let held = (rw c.in-Err-Full.field-0-is at c.in-Err-Full.ensures) 0 octets was.stands in
    (was.kept, (held.0, held.1))

pub returns-in-Err-Fault : goal.returns-in-Err-Fault
returns-in-Err-Fault c = λ octets keeps.
    let inside : Keeping = record { reader = c.self.inside.reader; octets = c.self.inside.octets.items } in
    let was : Keeps octets inside = subst (Keeps octets) (sym c.self.view_is) keeps in
    (rw c.in-Err-Fault.field-0-is at c.in-Err-Fault.ensures) 0 octets was.stands

pub invariant_of-result : goal.invariant_of-result
invariant_of-result c = let held = c.in-Ok.ensures 0 c.self.inside.octets.items c.self.invariant in (held.0, held.1)

pub invariant_of-result-in-Err-Full : goal.invariant_of-result-in-Err-Full
invariant_of-result-in-Err-Full c =
    let held = (rw c.in-Err-Full.field-0-is at c.in-Err-Full.ensures) 0 c.self.inside.octets.items c.self.invariant in
    (held.0, held.1)
