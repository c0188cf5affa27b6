use Rattle.std.proofs.Common.{◌≡◌, ◌++◌, ◌≤◌, length, take}
use Rattle.std.specs.List.{AllByRecursion}
use Rattle.ioam_collect.specs.Keyed.{IsOfRecord}
use Rattle.ioam_part.specs.Part.{items_octets}
use Rattle.ioam_part.proofs.putting.put_items.Given as goal

abbrev pub invariant-loop-item : goal.invariant-loop-item
invariant-loop-item l = record {
  lead : l.out.items ++ items_octets l.item-iterator ≡ l.initial.out.items ++ items_octets l.initial.item-iterator;
  front : take (length l.initial.out.items) l.out.items ≡ l.initial.out.items;
  more : length l.initial.out.items ≤ length l.out.items;
  whole : AllByRecursion IsOfRecord l.item-iterator;
}
