use Rattle.std.proofs.Common.{◌≡◌, ◌+◌, ◌<◌, ◌++◌, length}
use Rattle.std.specs.List.{AllByRecursion}
use Rattle.ioam_collect.specs.Keyed.{IsOfRecord}
use Rattle.ioam_part.specs.Part.{items_octets}
use Rattle.ioam_part.proofs.records.put_some.Given as goal

-- what was put and what is left are what was to be put
abbrev pub invariant-records : goal.invariant-records
invariant-records l = record {
  octets : l.out.items ++ items_octets l.items ≡ l.initial.out.items ++ items_octets l.initial.items;
  each : AllByRecursion IsOfRecord l.items;
  few : length l.initial.out.items < l.enough + 274 → length l.out.items < l.enough + 274;
}

abbrev pub decreases-records : goal.decreases-records
decreases-records l = length l.items
