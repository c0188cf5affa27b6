use Rattle.std.proofs.Common.{◌≡◌, ◌++◌, ◌≤◌, length, take}
use Rattle.std.specs.List.{AllByRecursion, flat_map}
use Rattle.ioam_collect.specs.Keyed.{IsOfRecord}
use Rattle.ioam_report_groups.specs.GroupsText.{item_line}
use Rattle.ioam_report_groups.proofs.items.put_items.Given as goal

abbrev pub invariant-loop-item : goal.invariant-loop-item
invariant-loop-item l = record {
  lead : l.out.items ++ flat_map item_line l.item-iterator ≡ l.initial.out.items ++ flat_map item_line l.initial.item-iterator;
  front : take (length l.initial.out.items) l.out.items ≡ l.initial.out.items;
  more : length l.initial.out.items ≤ length l.out.items;
  whole : AllByRecursion IsOfRecord l.item-iterator;
}
