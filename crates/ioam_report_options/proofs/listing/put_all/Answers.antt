use Rattle.std.proofs.Common.{◌≡◌, [], ◌∷◌, List, ℕ, is_ok, rules, ap}
use Rattle.std.proofs.lemmas.List.Elements.{All-rest}
use Rattle.ioam_ip.specs.ChainOptions.{HeadFits}
use Rattle.ioam_ip.specs.HeadsLeft.{heads_left, AreHeads}
use Rattle.ioam_ip.specs.declared.chain.Head.{Head}
use Rattle.ioam_report_options.specs.OptionsText.{ioam_in, ioam_from, OptionLines}
use Rattle.ioam_report_options.proofs.AppendsLaws.{Appends-kept}
use Rattle.ioam_report_options.proofs.LinesLaws.{Appended-none, Appended-more, Appended-front, told_all}
use Rattle.ioam_report_options.proofs.listing.put_all.Goals as goal

pub loop-head-init : goal.loop-head-init
loop-head-init c =
    let none = Appended-none (ioam_from c.args.packet.now (heads_left c.into_iter-head-iterator.result)) c.args.out.now.items in
    record {
      can = search rules;
      finite = search rules;
      so_far = none;
      front = Appended-front _ _ _ _ none;
      fit = search rules;
    }

pub loop-head-preserved : goal.loop-head-preserved
loop-head-preserved c =
    let p = c.args.packet.now in
    let head : Head = c.in-Some.head in
    let left : List Head = heads_left c.loop-head.head-iterator in
    let next : List Head = heads_left c.next.new.self in
    let steps : left ≡ head ∷ next = search rules in
    let Is : List ℕ → Type 0 = OptionLines (ioam_in p head) in
    let told = Appends-kept c.settle.result c.put_in-answer.result Is c.loop-head.out.items c.put_in-answer.new.out.items c.settle.new.out.items _
    c.put_in-answer.ensures c.settle.ensures.answer (ap is_ok c.in_ok-settle.was) c.settle.ensures.kept in
    let so_far = Appended-more _ (ioam_in p head) (ioam_from p left) (ioam_from p next) _ c.loop-head.out.items c.settle.new.out.items told.0
    c.loop-head.invariant.so_far (ap (λ (heads : List Head). ioam_from p heads) steps) told.1 told.2 in
    let P : Head → Type 0 = λ head. HeadFits p head in
    record {
      can = search rules;
      finite = search rules;
      so_far = so_far;
      front = Appended-front _ _ _ _ so_far;
      fit = All-rest P head next left steps c.loop-head.invariant.fit;
    }

pub returns : goal.returns
returns c =
    let p = c.args.packet.now in
    let none : heads_left c.loop-head.head-iterator ≡ [] = search rules in
    let are : AreHeads p (heads_left c.into_iter-head-iterator.result) = search rules in
    told_all p c.requires.sound _ _ c.args.out.now.items c.loop-head.out.items c.loop-head.invariant.so_far none are
