use Rattle.std.proofs.Common.{◌≡◌, ◌<◌, ◌+◌, ◌-◌, ◌*◌, ◌^◌, List, ℤ, drop, length}
use Rattle.ioam_delays.specs.Buckets.{low}
use Rattle.ioam_delays.specs.Counters.{Counts, count_below, rank, reached_at}
use Rattle.ioam_delays.proofs.counter.Counter.percentile.Given as goal

abbrev pub invariant-buckets : goal.invariant-buckets
invariant-buckets l = record {
  few : 100 * l.passed < l.self.count * l.per;
  at : reached_at (rank l.per l.self.count) l.self.buckets.items
      ≡ l.number + reached_at (rank l.per l.self.count - l.passed) (drop l.number l.self.buckets.items);
  passed : (delays : List ℤ) → length delays < 2 ^ 48 → Counts delays l.self → l.passed ≡ count_below (low l.number) delays;
}
