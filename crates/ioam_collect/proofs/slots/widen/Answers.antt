use Rattle.ioam_collect.proofs.slots.widen.Goals as goal

pub returns-clause-stay : goal.returns-clause-stay
returns-clause-stay c = λ map of. c.add_slots.ensures.stay map (rw c.try_reserve_exact.ensures.items of)
