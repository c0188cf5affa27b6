use Rattle.std.proofs.Common.{◌≡◌, ◌++◌, ◌≤◌, length, take}
use Rattle.std.specs.List.{AllByRecursion, flat_map}
use Rattle.ioam_collect.specs.Keyed.{IsOfRecord}
use Rattle.ioam_report_groups.specs.GroupsText.{group_text}
use Rattle.ioam_report_groups.proofs.groups.put_all.Given as goal

abbrev pub invariant-loop-group : goal.invariant-loop-group
invariant-loop-group l = record {
  lead : l.out.items ++ flat_map group_text l.group-iterator ≡ l.initial.out.items ++ flat_map group_text l.initial.group-iterator;
  front : take (length l.initial.out.items) l.out.items ≡ l.initial.out.items;
  more : length l.initial.out.items ≤ length l.out.items;
  whole : AllByRecursion (λ group. AllByRecursion IsOfRecord group.1) l.group-iterator;
}
