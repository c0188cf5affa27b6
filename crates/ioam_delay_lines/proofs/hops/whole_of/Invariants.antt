use Rattle.std.proofs.Common.{◌≡◌, take}
use Rattle.ioam_delay_lines.specs.Hops.{whole_of}
use Rattle.ioam_delay_lines.proofs.hops.whole_of.Given as goal

abbrev pub invariant-rows : goal.invariant-rows
invariant-rows l = l.whole ≡ whole_of l.namespace (take l.row-index l.rows)
