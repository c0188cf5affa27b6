use Rattle.std.proofs.Common.{◌≡◌, ◌+◌, ◌≤◌, List, length}
use Rattle.ioam_collect.specs.Entry.{Entry}
use Rattle.ioam_collect.specs.declared.key.Key.{Key}
use Rattle.ioam_part_merge.specs.Walk.{Comes, left}
use Rattle.ioam_part_merge.proofs.counting.count_both.Given as goal

-- so many came
abbrev pub invariant-records : goal.invariant-records
invariant-records l = record {
  came : (ps : List (Key × Entry)) → Comes l.initial.walk ps → (rest : List (Key × Entry)) × Comes l.walk rest × (length ps ≡ l.count + length rest);
  within : l.count ≤ 1048576;
}

abbrev pub decreases-records : goal.decreases-records
decreases-records l = left l.walk
