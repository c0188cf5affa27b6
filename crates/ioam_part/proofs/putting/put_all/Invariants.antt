use Rattle.std.proofs.Common.{◌≡◌, ◌++◌, ◌≤◌, length, take}
use Rattle.std.specs.List.{AllByRecursion}
use Rattle.ioam_collect.specs.Keyed.{IsOfRecord}
use Rattle.ioam_part.specs.Part.{groups_octets}
use Rattle.ioam_part.proofs.putting.put_all.Given as goal

abbrev pub invariant-loop-group : goal.invariant-loop-group
invariant-loop-group l = record {
  lead : l.out.items ++ groups_octets l.group-iterator ≡ l.initial.out.items ++ groups_octets l.initial.group-iterator;
  front : take (length l.initial.out.items) l.out.items ≡ l.initial.out.items;
  more : length l.initial.out.items ≤ length l.out.items;
  whole : AllByRecursion (λ group. AllByRecursion IsOfRecord group.1) l.group-iterator;
}
