use Rattle.std.specs.List.{AllByRecursion}
use Rattle.ioam_collect.specs.Gathered.{Gathered}
use Rattle.ioam_collect.specs.Joining.{AreAdded, ArePast, under}
use Rattle.ioam_collect.specs.Keyed.{IsOfRecord}
use Rattle.ioam_collect.proofs.joining.add_items.Given as goal

-- what becomes of the items that are left becomes of all
abbrev pub invariant-loop-item : goal.invariant-loop-item
invariant-loop-item l = record {
  added : (new : Gathered) → AreAdded l.store (under l.key l.item-iterator) new → AreAdded l.initial.store (under l.key l.initial.item-iterator) new;
  past : ArePast l.store (under l.key l.item-iterator) → ArePast l.initial.store (under l.key l.initial.item-iterator);
  whole : AllByRecursion IsOfRecord l.item-iterator;
}
