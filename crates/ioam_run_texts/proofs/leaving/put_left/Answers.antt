use Rattle.std.proofs.Common.{refl, subst, ap, sym, ◌∙◌}
use Rattle.ioam_plan.specs.Inside.{EndsInside}
use Rattle.ioam_plan.specs.declared.itinerary.Itinerary.{Itinerary}
use Rattle.ioam_run_texts.proofs.LeavingLaws.{left-there, drop-told}
use Rattle.ioam_run_texts.proofs.leaving.put_left.Goals as goal

pub returns-in-Drop : goal.returns-in-Drop
returns-in-Drop c = drop-told c.args.domain.now c.args.job.now c.args.outputs.now c.requires.width c.in-Drop.reason c.in-Drop.node
    (ap (λ (it : Itinerary). it.end) (sym c.itinerary.ensures) ∙ c.in-Drop.is)

pub returns-in_ok-put_leaving-in-Left : goal.returns-in_ok-put_leaving-in-Left
returns-in_ok-put_leaving-in-Left c =
    let is = ap (λ (it : Itinerary). it.end) (sym c.itinerary.ensures) ∙ c.in-Left.is in
    let told = c.in_ok-put_leaving-in-Left.ensures in
    left-there c.args.domain.now c.args.job.now c.args.outputs.now c.requires.width _ _ c.in-Left.port _ told.0 c.place_of_port-at.ensures is
    (subst (EndsInside c.args.domain.now) is c.requires.holds.ends) refl told.1 (told.2 c.args.domain.now) told.3
