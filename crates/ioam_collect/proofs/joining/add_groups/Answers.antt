use Rattle.std.proofs.Common.{◌≡◌, List, [], ◌∷◌, rules, ap, subst}
use Rattle.ioam_pool.specs.Entry.{Entry}
use Rattle.ioam_collect.specs.Join.{pairs_in}
use Rattle.ioam_collect.specs.Joining.{AreAdded, ArePast, Takes, under}
use Rattle.ioam_collect.specs.declared.key.Key.{Key}
use Rattle.ioam_collect.proofs.JoiningLaws.{added_all, added_on, past_here, past_on}
use Rattle.ioam_collect.proofs.joining.add_groups.Goals as goal

pub loop-group-init : goal.loop-group-init
loop-group-init c = record { added = λ new is. is; past = λ is. is; whole = search rules }

pub loop-group-preserved : goal.loop-group-preserved
loop-group-preserved c =
    let steps : c.loop-group.group-iterator ≡ (c.in-Some.group.key, c.in-Some.group.items) ∷ c.next.new.self = search rules in
    let front : List (Key × Entry) = under c.in-Some.group.key c.in-Some.group.items in
    let all : List (Key × Entry) = pairs_in c.into_iter-group-iterator.result in
    let took : AreAdded c.loop-group.store front c.add_items.new.store =
    subst (λ b. Takes c.loop-group.store front b c.add_items.new.store) c.if-not-fits.false c.in_ok-fits.ensures in
    record {
      added = added_on _ c.loop-group.store all _ front (pairs_in c.next.new.self) (ap pairs_in steps) c.add_items.new.store c.loop-group.invariant.added took;
      past = past_on _ c.loop-group.store all _ front (pairs_in c.next.new.self) (ap pairs_in steps) c.add_items.new.store c.loop-group.invariant.past took;
      whole = search rules;
    }

pub returns-then-not-fits : goal.returns-then-not-fits
returns-then-not-fits c =
    let steps : c.loop-group.group-iterator ≡ (c.in-Some.group.key, c.in-Some.group.items) ∷ c.next.new.self = search rules in
    let front : List (Key × Entry) = under c.in-Some.group.key c.in-Some.group.items in
    let all : List (Key × Entry) = pairs_in c.into_iter-group-iterator.result in
    let over : ArePast c.loop-group.store front =
    subst (λ b. Takes c.loop-group.store front b c.add_items.new.store) c.if-not-fits.true c.in_ok-fits.ensures in
    let same : c.into_iter-group-iterator.result ≡ c.args.groups = search rules in
    subst (λ es. ArePast c.args.store.now (pairs_in es)) same (past_here c.args.store.now c.loop-group.store all _ front (pairs_in c.next.new.self) (ap pairs_in steps) c.loop-group.invariant.past over)

pub returns : goal.returns
returns c =
    let none : c.loop-group.group-iterator ≡ [] = search rules in
    let same : c.into_iter-group-iterator.result ≡ c.args.groups = search rules in
    subst (λ es. AreAdded c.args.store.now (pairs_in es) c.loop-group.store) same (added_all c.args.store.now c.loop-group.store (pairs_in c.into_iter-group-iterator.result) _ (ap pairs_in none) c.loop-group.invariant.added)
