use Rattle.std.proofs.Common.{arith, ◌∙◌}
use Rattle.std.proofs.lemmas.List.Elements.{All-push}
use Rattle.ioam_collect.specs.Slots.{IsSlotOf}
use Rattle.ioam_collect.proofs.slots.add_slots.Goals as goal

pub adding-preserved : goal.adding-preserved
adding-preserved c = record {
  stay = λ map of. rw c.push_reserved.ensures.items (All-push (IsSlotOf map) _ _ (c.adding.invariant.stay map of) tt);
  len = omega arith;
  capacity = c.push_reserved.ensures.capacity ∙ c.adding.invariant.capacity;
  room = omega arith;
}
