use Rattle.std.proofs.Common.{◌≡◌, ℕ, length, take}
use Rattle.std.specs.List.{count_by}
use Rattle.ioam_report.specs.Sums.{is_at, Raised}
use Rattle.ioam_report.proofs.sums.NodeSums.pass_all.Given as goal

abbrev pub invariant-loop-visit : goal.invariant-loop-visit
invariant-loop-visit l = record {
  count : length l.self ≡ length l.initial.self;
  raised : (at : ℕ) → Raised l.initial.self l.self at (count_by (is_at at) (take l.visit-index l.visits)) 0;
}
