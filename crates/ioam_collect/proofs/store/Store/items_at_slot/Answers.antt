use Rattle.ioam_collect.proofs.store.Store.items_at_slot.Goals as goal

pub walk-requires : goal.walk-requires
walk-requires c = c.self.invariant.0.below c.args.key c.in-Some.chain c.in-Some.ensures
