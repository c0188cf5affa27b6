use Rattle.std.proofs.Common.{◌+◌, ◌≤◌, length, drop, sym, subst, arith}
use Rattle.std.specs.Prelude.{set, true}
use Rattle.std.proofs.lemmas.List.{take_rest}
use Rattle.ioam_ipfix.specs.Faults.{IsStuckTemplate}
use Rattle.ioam_ipfix.specs.Sets.{IsPadding, TemplatePasses}
use Rattle.ioam_ipfix.proofs.PlacesLaws.{Took, Took-all, Took-none, Took-push, Took-stuck}
use Rattle.ioam_ipfix.proofs.set.take_templates.Goals as goal

pub templates-init : goal.templates-init
templates-init c = record { within = omega arith; took = Took-none c.args.content.now c.args.known.now }

pub templates-preserved : goal.templates-preserved
templates-preserved c =
    let content = c.args.content.now in
    let at = c.templates.at in
    let id = c.in-Whole.id in
    let size = c.in-Whole.size in
    let whole = subst (λ o. TemplatePasses o id (drop size o) × (4 ≤ size) × (size ≤ length o)) (take_rest content at) c.in-Whole.ensures in
    let took = Took-push content c.args.known.now at c.templates.known id size c.templates.invariant.took whole.0 whole.2 in
    record {
      within = took.within;
      took = subst (λ k. Took content c.args.known.now (at + size) (set c.templates.known k true)) (sym c.from.ensures) took;
    }

pub returns-in-Padding : goal.returns-in-Padding
returns-in-Padding c =
    let content = c.args.content.now in
    let at = c.templates.at in
    Took-all content c.args.known.now at c.templates.known c.templates.invariant.took (subst (IsPadding 4) (take_rest content at) c.in-Padding.ensures)

pub returns-in-Bad : goal.returns-in-Bad
returns-in-Bad c =
    let content = c.args.content.now in
    let at = c.templates.at in
    Took-stuck content c.args.known.now at c.templates.known c.in-Bad.fault c.templates.invariant.took
    (subst (λ o. IsStuckTemplate o c.in-Bad.fault) (take_rest content at) c.in-Bad.ensures)
