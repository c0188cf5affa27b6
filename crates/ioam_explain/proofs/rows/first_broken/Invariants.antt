use Rattle.std.proofs.Common.{◌≡◌, drop}
use Rattle.ioam_explain.specs.Rows.{first_broken}
use Rattle.ioam_explain.proofs.rows.first_broken.Given as goal

abbrev pub invariant-loop-row : goal.invariant-loop-row
invariant-loop-row l = first_broken l.rows ≡ first_broken (drop l.row-index l.rows)
