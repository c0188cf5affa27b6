use Rattle.std.proofs.Common.{◌≡◌, [], ◌∷◌, List, ℕ, is_ok, rules, arith, ap}
use Rattle.std.proofs.lemmas.List.Elements.{All-rest}
use Rattle.ioam_ip.specs.Options.{Item, AreOptions}
use Rattle.ioam_ip.specs.OptionsLeft.{options_left, item_of}
use Rattle.ioam_report_options.specs.OptionsText.{ioam_among, OptionLines}
use Rattle.ioam_report_options.proofs.AppendsLaws.{Appends-kept}
use Rattle.ioam_report_options.proofs.LinesLaws.{Appended-none, Appended-more, Appended-front, ioam_among-next, told_among}
use Rattle.ioam_report_options.proofs.OptionsLaws.{IsInside, options_inside}
use Rattle.ioam_report_options.proofs.listing.put_among.Goals as goal

pub loop-option-init : goal.loop-option-init
loop-option-init c =
    let are : AreOptions c.args.head.now (options_left c.into_iter-option-iterator.result) = search rules in
    let none = Appended-none (ioam_among c.args.start (options_left c.into_iter-option-iterator.result)) c.args.out.now.items in
    record {
      can = search rules;
      finite = search rules;
      so_far = none;
      front = Appended-front _ _ _ _ none;
      inside = options_inside c.args.head.now _ (λ i. omega (arith, c.type_inv.head i)) are;
    }

pub loop-option-preserved : goal.loop-option-preserved
loop-option-preserved c =
    let item : Item = item_of c.in-Some.option in
    let left : List Item = options_left c.loop-option.option-iterator in
    let next : List Item = options_left c.next.new.self in
    let steps : left ≡ item ∷ next = search rules in
    let Is : List ℕ → Type 0 = OptionLines (ioam_among c.args.start (item ∷ [])) in
    let told = Appends-kept c.settle.result c.put_if_ioam-answer.result Is c.loop-option.out.items c.put_if_ioam-answer.new.out.items c.settle.new.out.items _
    c.put_if_ioam-answer.ensures c.settle.ensures.answer (ap is_ok c.in_ok-settle.was) c.settle.ensures.kept in
    let so_far = Appended-more _ (ioam_among c.args.start (item ∷ [])) (ioam_among c.args.start left) (ioam_among c.args.start next) _ c.loop-option.out.items c.settle.new.out.items told.0
    c.loop-option.invariant.so_far (ioam_among-next c.args.start left next item steps) told.1 told.2 in
    record {
      can = search rules;
      finite = search rules;
      so_far = so_far;
      front = Appended-front _ _ _ _ so_far;
      inside = All-rest (IsInside _) item next left steps c.loop-option.invariant.inside;
    }

pub returns : goal.returns
returns c =
    let none : options_left c.loop-option.option-iterator ≡ [] = search rules in
    let are : AreOptions c.args.head.now (options_left c.into_iter-option-iterator.result) = search rules in
    told_among c.args.start c.args.head.now _ _ c.args.out.now.items c.loop-option.out.items c.loop-option.invariant.so_far none are
