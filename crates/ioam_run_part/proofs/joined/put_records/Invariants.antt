use Rattle.std.proofs.Common.{◌≤◌}
use Rattle.ioam_part_merge.specs.Walk.{left}
use Rattle.ioam_run_part.specs.Joined.{PutsSome}
use Rattle.ioam_run_part.proofs.joined.put_records.Given as goal

-- some of the records were appended
abbrev pub invariant-records : goal.invariant-records
invariant-records l = record {
  puts : PutsSome l.initial.walk l.walk l.initial.out.items l.out.items;
  fewer : left l.walk ≤ left l.initial.walk;
}

-- what is still to come
abbrev pub decreases-records : goal.decreases-records
decreases-records l = left l.walk
