use Rattle.std.proofs.Common.{ap, sym, refl, ◌∙◌, arith}
use Rattle.std.proofs.lemmas.Result.{err_from_is_err_and}
use Rattle.ioam_pool.specs.Chains.{Chains}
use Rattle.ioam_collect.specs.Inside.{gathered}
use Rattle.ioam_collect.proofs.StoreLaws.{absent_repeats, absent_replaces, first_inside, first_over, same_gathered, same_inside}
use Rattle.ioam_collect.proofs.adding.add_first.Goals as goal

pub returns-then-held-limit-clause-adds : goal.returns-then-held-limit-clause-adds
returns-then-held-limit-clause-adds c = (
  absent_repeats c.args.pool.now c.args.chains.now.map c.args.limit c.args.key c.args.item c.requires.absent,
  absent_replaces c.args.pool.now c.args.chains.now.map c.args.limit c.args.key c.args.item c.requires.absent,
  sym c.held.ensures.held ∙ c.if-held-limit.true,
  refl,
)

pub returns-in_err-make_room-clause-inside : goal.returns-in_err-make_room-clause-inside
returns-in_err-make_room-clause-inside c = same_inside _ _ _ _ _ c.requires.inside c.in_err-make_room.ensures.chains c.in_err-make_room.ensures.within

pub returns-in_err-make_room-clause-adds : goal.returns-in_err-make_room-clause-adds
returns-in_err-make_room-clause-adds c =
    let p = err_from_is_err_and c.from_residual.result c.from_residual.ensures.1 in
    rw p.1 (same_gathered c.args.pool.now c.make_room.new.pool c.args.chains.now.map c.args.limit c.in_err-make_room.ensures.chains)

pub spare_chain-requires : goal.spare_chain-requires
spare_chain-requires c = record {
  inside = same_inside _ _ _ _ _ c.requires.inside c.in_ok-make_room.ensures.chains c.in_ok-make_room.ensures.within;
}

pub returns-in_err-chain-clause-adds : goal.returns-in_err-chain-clause-adds
returns-in_err-chain-clause-adds c =
    let p = err_from_is_err_and c.from_residual-in_err-chain.result c.from_residual-in_err-chain.ensures.1 in
    rw p.1
    (c.in_err-chain.ensures.same ∙ same_gathered c.args.pool.now c.make_room.new.pool c.args.chains.now.map c.args.limit c.in_ok-make_room.ensures.chains)

pub returns-clause-inside : goal.returns-clause-inside
returns-clause-inside c =
    let inside = rw c.in_ok-chain.ensures.spare at c.in_ok-chain.ensures.inside in
    let kept = c.in-Kept.ensures.inserts in
    let capacity = ap (λ (p : Chains). p.capacity) kept.3 in
    let most = inside.capacity in
    let less = kept.2 in
    first_inside _ _ _ _ _ _ _ inside c.requires.absent c.in_ok-insert.ensures.updates.0 _ c.requires.of_record (rw capacity most) (omega arith)
    (ap (λ (p : Chains). p.chains) kept.3) c.in-Kept.ensures.held

pub returns-clause-adds : goal.returns-clause-adds
returns-clause-adds c =
    let inside = rw c.in_ok-chain.ensures.spare at c.in_ok-chain.ensures.inside in
    let kept = c.in-Kept.ensures.inserts in
    let capacity = ap (λ (p : Chains). p.capacity) kept.3 in
    let most = inside.capacity in
    let less = kept.2 in
    let was = c.in_ok-chain.ensures.same ∙ same_gathered c.args.pool.now c.make_room.new.pool c.args.chains.now.map c.args.limit c.in_ok-make_room.ensures.chains in
    let over = first_over _ c.insert-2.new.self _ c.insert.new.self.map c.args.limit c.args.key _ inside c.requires.absent c.in_ok-insert.ensures.updates.0 c.args.item c.requires.of_record (rw capacity most) (omega arith)
    (ap (λ (p : Chains). p.chains) kept.3) c.in-Kept.ensures.held (gathered c.args.pool.now c.args.chains.now.map c.args.limit) was in
    let held = c.requires.inside.held in (
      absent_repeats c.args.pool.now c.args.chains.now.map c.args.limit c.args.key c.args.item c.requires.absent,
      absent_replaces c.args.pool.now c.args.chains.now.map c.args.limit c.args.key c.args.item c.requires.absent,
      omega (arith, c.held.ensures.held, c.if-held-limit.false),
      over.0,
      over.1,
    )
