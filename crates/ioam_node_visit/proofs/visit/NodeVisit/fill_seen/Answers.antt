use Rattle.std.proofs.Common.{ℕ, subst, ◌∙◌}
use Rattle.ioam_data.specs.View.{seen}
use Rattle.ioam_node_visit.specs.Seeing.{AreAlike, view_of}
use Rattle.ioam_node_visit.proofs.AlikeLaws.{answer-alike, filled-alike}
use Rattle.ioam_node_visit.proofs.visit.NodeVisit.fill_seen.Goals as goal

pub returns-clause-octets : goal.returns-clause-octets
returns-clause-octets c =
    let v = c.args.self.now in
    let view = view_of v.domain.now v.readings.now v.place v.time v.hops c.args.namespace.0 in
    let P : ℕ → Type 0 = λ kind. AreAlike kind (seen c.view-view.result) view in
    c.fill.ensures.octets ∙ filled-alike c.args.octets.now (seen c.view-view.result) view (subst P c.at-kind.ensures c.view-view.ensures)

pub returns-clause-answer : goal.returns-clause-answer
returns-clause-answer c =
    let v = c.args.self.now in
    let view = view_of v.domain.now v.readings.now v.place v.time v.hops c.args.namespace.0 in
    let P : ℕ → Type 0 = λ kind. AreAlike kind (seen c.view-view.result) view in
    c.fill.ensures.answer ∙ answer-alike c.args.octets.now (seen c.view-view.result) view (subst P c.at-kind.ensures c.view-view.ensures)
