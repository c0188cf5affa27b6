use Rattle.std.proofs.Common.{◌≡◌, ◌<◌, ◌≤◌, ◌+◌, ◌-◌, ◌^◌, ◌++◌, List, ℤ, Option, length, take}
use Rattle.ioam_delay_counts.specs.Tables.{IsTable}
use Rattle.ioam_delay_counts.specs.Courses.{hops_from}
use Rattle.ioam_delay_counts.specs.Orders.{hop_before}
use Rattle.ioam_delay_counts.specs.Tallies.{CountsPassed}
use Rattle.ioam_delay_counts.specs.declared.keys.HopKey.{HopKey}
use Rattle.ioam_delay_counts.proofs.course.count_hops.Given as goal

abbrev pub invariant-hops : goal.invariant-hops
invariant-hops l = record {
  limit : l.hops.limit ≡ l.initial.hops.limit;
  some : 1 ≤ l.at;
  within : l.at ≤ length l.sights + 1;
  counted : (seen : List (HopKey × Option ℤ)) → length seen + length l.sights < 2 ^ 48 → IsTable hop_before CountsPassed seen l.initial.hops
      → IsTable hop_before CountsPassed (seen ++ hops_from l.namespace (take l.at l.sights)) l.hops;
}

abbrev pub decreases-hops : goal.decreases-hops
decreases-hops l = length l.sights - l.at
