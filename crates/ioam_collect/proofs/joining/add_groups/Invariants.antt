use Rattle.std.specs.List.{AllByRecursion}
use Rattle.ioam_collect.specs.Gathered.{Gathered}
use Rattle.ioam_collect.specs.Join.{pairs_in}
use Rattle.ioam_collect.specs.Joining.{AreAdded, ArePast}
use Rattle.ioam_collect.specs.Keyed.{IsOfRecord}
use Rattle.ioam_collect.proofs.joining.add_groups.Given as goal

-- what becomes of the groups that are left becomes of all
abbrev pub invariant-loop-group : goal.invariant-loop-group
invariant-loop-group l = record {
  added : (new : Gathered) → AreAdded l.store (pairs_in l.group-iterator) new → AreAdded l.initial.store (pairs_in l.initial.group-iterator) new;
  past : ArePast l.store (pairs_in l.group-iterator) → ArePast l.initial.store (pairs_in l.initial.group-iterator);
  whole : AllByRecursion (λ group. AllByRecursion IsOfRecord group.1) l.group-iterator;
}
