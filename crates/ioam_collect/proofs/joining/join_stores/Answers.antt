use Rattle.std.proofs.Common.{sym, subst}
use Rattle.ioam_collect.proofs.JoiningLaws.{InOrder}
use Rattle.ioam_collect.proofs.JoinedStores.{both_taken, first_past, second_past}
use Rattle.ioam_collect.proofs.joining.join_stores.Goals as goal

pub returns-then-not-first : goal.returns-then-not-first
returns-then-not-first c =
    first_past c.args.one.now c.args.other.now c.in_ok-store.store c.add_groups.new.store c.add_groups.new.store c.limit.result c.in_ok-store.ensures c.limit.ensures.limit
    c.groups.result c.args.other.now.groups c.groups.ensures.groups Rattle.std.proofs.Common.refl c.in_ok-first.first c.in_ok-first.first c.if-not-first.true c.in_ok-first.ensures

pub returns-then-not-second : goal.returns-then-not-second
returns-then-not-second c =
    second_past c.args.one.now c.args.other.now c.in_ok-store.store c.add_groups.new.store c.add_groups-2.new.store c.limit.result c.in_ok-store.ensures c.limit.ensures.limit
    c.groups.result c.groups-2.result c.groups.ensures.groups c.groups-2.ensures.groups c.in_ok-first.first c.in_ok-second.second c.if-not-first.false c.if-not-second.true
    c.in_ok-first.ensures c.in_ok-second.ensures

pub returns : goal.returns
returns c =
    let in_one : InOrder c.args.one.now = (c.groups.ensures.in_order, c.groups.ensures.some) in
    let in_other : InOrder c.args.other.now = (c.groups-2.ensures.in_order, c.groups-2.ensures.some) in
    let in_last : InOrder c.add_groups-2.new.store = (c.are_in_order.ensures.in_order, c.are_in_order.ensures.some) in
    both_taken c.args.one.now c.args.other.now c.in_ok-store.store c.add_groups.new.store c.add_groups-2.new.store c.limit.result c.in_ok-store.ensures c.limit.ensures.limit
    c.groups.result c.groups-2.result c.groups.ensures.groups c.groups-2.ensures.groups c.in_ok-first.first c.in_ok-second.second c.if-not-first.false c.if-not-second.false
    c.in_ok-first.ensures c.in_ok-second.ensures in_one in_other in_last
