use Rattle.std.proofs.Common.{rules, List, refl, subst}
use Rattle.std.specs.List.{count_by}
use Rattle.ioam_plan.specs.declared.itinerary.Visit.{Visit}
use Rattle.ioam_report.specs.Sums.{is_at, Raised}
use Rattle.ioam_report.proofs.SumsLaws.{StandFor-left, StandFor-dropped}
use Rattle.ioam_report.proofs.sums.Sums.note.Goals as goal

pub returns-in-Left-clause-stands : goal.returns-in-Left-clause-stands
returns-in-Left-clause-stands c = λ domain arrivals stand.
    StandFor-left domain c.args.self.now _ arrivals c.args.itinerary.now c.in-Left.port c.in-Left.is stand c.requires.packets c.list.ensures.few
    refl c.saturating_add-self.ensures refl c.pass_all.ensures.count
    (λ at. let P : List Visit → Type 0 = λ visits. Raised c.args.self.now.nodes c.pass_all.new.self at (count_by (is_at at) visits) 0 in
    subst P c.list.ensures.visits (c.pass_all.ensures.raised at)) c.note.ensures.count c.note.ensures.stands

pub returns-in-Drop-clause-stands : goal.returns-in-Drop-clause-stands
returns-in-Drop-clause-stands c = λ domain arrivals stand.
    StandFor-dropped domain c.args.self.now _ c.pass_all.new.self arrivals c.args.itinerary.now c.in-Drop.reason c.in-Drop.node _ c.in-Drop.is stand
    c.requires.packets c.list.ensures.few refl refl c.saturating_add-self-in-Drop.ensures c.pass_all.ensures.count c.pass.ensures.count (search rules)
    (λ at. let P : List Visit → Type 0 = λ visits. Raised c.args.self.now.nodes c.pass_all.new.self at (count_by (is_at at) visits) 0 in
    subst P c.list.ensures.visits (c.pass_all.ensures.raised at))
    c.pass.ensures.raised c.note.ensures.count c.note.ensures.stands
