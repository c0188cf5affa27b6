use Rattle.std.proofs.Common.{◌≡◌, ◌-◌, [], List, drop, length, length-take, length-drop, slice_range, arith, sym, subst, ◌∙◌}
use Rattle.std.proofs.lemmas.List.{take_rest}
use Rattle.ioam_ip.specs.OptionsLeft.{options_from}
use Rattle.ioam_ip.specs.Options.{Item}
use Rattle.ioam_ip.specs.Spot.{IsNext}
use Rattle.ioam_node_visit.proofs.PlacesLaws.{lies-in}
use Rattle.ioam_audit.specs.Header.{AreLeft}
use Rattle.ioam_audit.proofs.LeftLaws.{turn-opens, turn-closes, lies-next, last}
use Rattle.ioam_audit.proofs.options.agree.Goals as goal

pub options-init : goal.options-init
options-init c = (omega arith, omega (arith, c.requires.order, c.requires.within), lies-in (slice_range c.args.before.now 40 c.args.end), (λ left. left, λ left. left))

pub options-preserved : goal.options-preserved
options-preserved c =
    let before = c.args.before.now in
    let head = slice_range before 40 c.args.end in
    let domain = c.args.domain.now in
    let node = c.args.node.0 in
    let sight = c.args.sight in
    let order = c.options.invariant.0 in
    let lies = c.options.invariant.2 in
    let step = c.options.invariant.3 in
    let next : IsNext head c.options.at c.in-Some.spot = c.in-Some.ensures in
    let agrees = c.agrees_at.ensures.0 (c.if-not-agrees_at.false) in
    let long : length head ≡ c.args.end - 40 =
    omega (arith, c.requires.order, c.requires.within, length-take (c.args.end - 40) (drop 40 before), length-drop 40 before) in (
      omega arith,
      omega (arith, next.within, long, c.requires.within, c.requires.order),
      lies-next domain node sight.hops sight.id sight.inward before c.args.after.now c.requires.same c.args.end c.options.from c.options.at c.requires.within c.requires.order order c.in-Some.spot next lies,
      (
        λ left. (turn-opens domain node sight.hops sight.id sight.inward before c.args.after.now c.requires.same c.args.end c.options.from c.options.at c.requires.within c.requires.order order c.in-Some.spot next lies (step.0 left)).1,
        λ rest. step.1 (turn-closes domain node sight.hops sight.id sight.inward before c.args.after.now c.requires.same c.args.end c.options.from c.options.at c.requires.within c.requires.order order c.in-Some.spot next lies agrees rest),
      ),
    )

pub returns-then-not-agrees_at : goal.returns-then-not-agrees_at
returns-then-not-agrees_at c =
    let before = c.args.before.now in
    let sight = c.args.sight in
    let order = c.options.invariant.0 in
    let lies = c.options.invariant.2 in
    let step = c.options.invariant.3 in
    let next : IsNext (slice_range before 40 c.args.end) c.options.at c.in-Some.spot = c.in-Some.ensures in (
      λ never. absurd (cc never),
      λ left.
          let turn = turn-opens c.args.domain.now c.args.node.0 sight.hops sight.id sight.inward before c.args.after.now c.requires.same c.args.end c.options.from c.options.at c.requires.within c.requires.order order c.in-Some.spot next lies (step.0 left) in
          sym c.if-not-agrees_at.true ∙ c.agrees_at.ensures.1 turn.0,
    )

pub returns : goal.returns
returns c =
    let before = c.args.before.now in
    let head = slice_range before 40 c.args.end in
    let sight = c.args.sight in
    let step = c.options.invariant.3 in
    let none : options_from (length head) head c.options.at ≡ [] = c.in_default.ensures in
    let Rest : List Item → Type 0 = λ os. AreLeft c.args.domain.now c.args.node.0 sight.hops sight.id sight.inward before c.args.after.now c.options.from os in
    let ends = last c.args.domain.now c.args.node.0 sight.hops sight.id sight.inward before c.args.after.now c.requires.same c.options.from in
    let old = take_rest before c.options.from in
    let new = take_rest c.args.after.now c.options.from in (
      λ is. step.1 (subst Rest (sym none) (ends.1 (sym new ∙ c.is_same.ensures.0 is ∙ old))),
      λ left. c.is_same.ensures.1 (new ∙ ends.0 (subst Rest none (step.0 left)) ∙ sym old),
    )
