use Rattle.std.proofs.Common.{sym, ◌∙◌}
use Rattle.ioam_collect.proofs.StoreLaws.{full_under, full_absent}
use Rattle.ioam_collect.proofs.store.Store.is_full_for.Goals as goal

pub is_apart-requires : goal.is_apart-requires
is_apart-requires c = c.self.invariant.0.below c.args.key c.in-Some.chain (sym c.in-Some.ensures)

pub returns-in-Some : goal.returns-in-Some
returns-in-Some c =
    rw (← c.self.view_is) (full_under c.self.inside.pool c.self.inside.chains.map c.self.inside.limit c.args.key c.args.item.now c.in-Some.chain
    (sym c.in-Some.ensures) (sym c.held.ensures.held ∙ c.if-held-self.false) _ c.is_apart.ensures)

pub returns-in-None : goal.returns-in-None
returns-in-None c =
    rw (← c.self.view_is) (full_absent c.self.inside.pool c.self.inside.chains.map c.self.inside.limit c.args.key c.args.item.now
    (sym c.in-None.ensures) (sym c.held.ensures.held ∙ c.if-held-self.false))
