use Rattle.std.proofs.Common.{◌≡◌, take}
use Rattle.std.specs.List.{fold}
use Rattle.ioam_delay_lines.specs.Spaces.{next_more}
use Rattle.ioam_delay_lines.proofs.spaces.next_count.Given as goal

abbrev pub invariant-rows : goal.invariant-rows
invariant-rows l = l.most ≡ fold (next_more l.namespace l.limit) 0 (take l.row-index l.rows)
