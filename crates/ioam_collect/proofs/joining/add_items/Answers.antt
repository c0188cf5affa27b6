use Rattle.std.proofs.Common.{◌≡◌, List, [], ◌∷◌, rules, ap, subst}
use Rattle.ioam_pool.specs.Entry.{Entry}
use Rattle.ioam_collect.specs.Joining.{AreAdded, ArePast, Takes, under}
use Rattle.ioam_collect.specs.declared.key.Key.{Key}
use Rattle.ioam_collect.proofs.JoiningLaws.{added_all, added_on, past_here, past_on}
use Rattle.ioam_collect.proofs.joining.add_items.Goals as goal

pub loop-item-init : goal.loop-item-init
loop-item-init c = record { added = λ new is. is; past = λ is. is; whole = search rules }

pub loop-item-preserved : goal.loop-item-preserved
loop-item-preserved c =
    let steps : c.loop-item.item-iterator ≡ c.in-Some.item.now ∷ c.next.new.self = search rules in
    let front : List (Key × Entry) = (c.args.key, c.in-Some.item.now) ∷ [] in
    let all : List (Key × Entry) = under c.args.key c.into_iter-item-iterator.result in
    let took : AreAdded c.loop-item.store front c.add_copy.new.store =
    subst (λ b. Takes c.loop-item.store front b c.add_copy.new.store) c.if-not-fits.false c.in_ok-fits.ensures in
    record {
      added = added_on _ c.loop-item.store all _ front (under c.args.key c.next.new.self) (ap (under c.args.key) steps) c.add_copy.new.store c.loop-item.invariant.added took;
      past = past_on _ c.loop-item.store all _ front (under c.args.key c.next.new.self) (ap (under c.args.key) steps) c.add_copy.new.store c.loop-item.invariant.past took;
      whole = search rules;
    }

pub returns-then-not-fits : goal.returns-then-not-fits
returns-then-not-fits c =
    let steps : c.loop-item.item-iterator ≡ c.in-Some.item.now ∷ c.next.new.self = search rules in
    let front : List (Key × Entry) = (c.args.key, c.in-Some.item.now) ∷ [] in
    let all : List (Key × Entry) = under c.args.key c.into_iter-item-iterator.result in
    let over : ArePast c.loop-item.store front =
    subst (λ b. Takes c.loop-item.store front b c.add_copy.new.store) c.if-not-fits.true c.in_ok-fits.ensures in
    let same : c.into_iter-item-iterator.result ≡ c.args.items = search rules in
    subst (λ es. ArePast c.args.store.now (under c.args.key es)) same (past_here c.args.store.now c.loop-item.store all _ front (under c.args.key c.next.new.self) (ap (under c.args.key) steps) c.loop-item.invariant.past over)

pub returns : goal.returns
returns c =
    let none : c.loop-item.item-iterator ≡ [] = search rules in
    let same : c.into_iter-item-iterator.result ≡ c.args.items = search rules in
    subst (λ es. AreAdded c.args.store.now (under c.args.key es) c.loop-item.store) same (added_all c.args.store.now c.loop-item.store (under c.args.key c.into_iter-item-iterator.result) _ (ap (under c.args.key) none) c.loop-item.invariant.added)
