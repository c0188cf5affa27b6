use Rattle.std.proofs.Common.{◌≡◌, ◌+◌, ◌≤◌, vec_len}
use Rattle.std.specs.Prelude.{vec_capacity}
use Rattle.ioam_collect.specs.Slots.{StaySlots}
use Rattle.ioam_collect.proofs.slots.add_slots.Given as goal

abbrev pub invariant-adding : goal.invariant-adding
invariant-adding l = record {
  stay : StaySlots l.initial.slots.items l.slots.items;
  len : vec_len l.slots ≡ vec_len l.initial.slots + l.counter;
  capacity : vec_capacity l.slots ≡ vec_capacity l.initial.slots;
  room : vec_len l.initial.slots + l.more ≤ vec_capacity l.slots;
}
