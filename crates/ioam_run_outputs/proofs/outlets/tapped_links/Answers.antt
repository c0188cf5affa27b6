use Rattle.std.proofs.Common.{◌≡◌, ◌<◌, length, List, sym, ◌∙◌, ap, subst, arith}
use Rattle.std.specs.List.{All}
use Rattle.std.proofs.lemmas.List.{take_all}
use Rattle.ioam_topo.specs.Domain.{links}
use Rattle.ioam_topo.specs.Keyed.{taps_of}
use Rattle.ioam_topo.specs.declared.ids.LinkId.{LinkId}
use Rattle.ioam_run_outputs.specs.Outlets.{tapped, HasTap}
use Rattle.ioam_run_outputs.proofs.OutletsLaws.{tapped_step, tapped_inside, tapped_have, length-tapped}
use Rattle.ioam_run_outputs.proofs.outlets.tapped_links.Goals as goal

pub links-preserved : goal.links-preserved
links-preserved c = tapped_step c.links-link-items.result.now c.links.place c.link-item.result c.links.ids.items c.push_link.new.ids.items
    c.links-test.true c.link-item.is c.links.invariant c.in_ok-push_link.ensures

all_of : (c : goal.After-links) → c.links.ids.items ≡ tapped (links c.args.domain.now)
all_of c = c.links.invariant ∙ ap tapped (take_all c.links.place c.links-link-items.result.now c.links-test.false)
    ∙ ap tapped c.links-link-items.ensures.value

pub returns-clause-inside : goal.returns-clause-inside
returns-clause-inside c =
    let P : List LinkId → Type 0 = λ l. All (λ link. link.0 < length (links c.args.domain.now)) l in
    subst P (sym (all_of c)) (tapped_inside (links c.args.domain.now))

pub returns-clause-tapped : goal.returns-clause-tapped
returns-clause-tapped c =
    let P : List LinkId → Type 0 = λ l. All (HasTap (links c.args.domain.now)) l in
    subst P (sym (all_of c)) (tapped_have (links c.args.domain.now))

pub returns-clause-few : goal.returns-clause-few
returns-clause-few c = omega (
  arith,
  ap length (all_of c),
  length-tapped (links c.args.domain.now),
  ap taps_of c.links-link-items.ensures.value,
  c.links-link-items.ensures.taps,
)
