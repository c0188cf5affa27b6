use Rattle.std.proofs.Common.{◌≡◌, ◌≤◌, ◌-◌, vec_len}
use Rattle.std.specs.Prelude.{replicate, vec_capacity}
use Rattle.ioam_report.proofs.filled.filled.Given as goal

-- so many of them are there so far
abbrev pub invariant-filling : goal.invariant-filling
invariant-filling g l = record {
  items : l.list.items ≡ replicate (vec_len l.list) l.value;
  most : vec_len l.list ≤ l.count;
  room : vec_capacity l.list ≡ l.count;
}

abbrev pub decreases-filling : goal.decreases-filling
decreases-filling g l = l.count - vec_len l.list
