use Rattle.std.proofs.Common.{◌≡◌, ◌++◌, flat_map, take}
use Rattle.ioam_delay_lines.specs.Spaces.{hop_line}
use Rattle.ioam_delay_lines.proofs.spaces.put_hops.Given as goal

abbrev pub invariant-rows : goal.invariant-rows
invariant-rows l = l.out.items ≡ l.initial.out.items ++ flat_map (hop_line l.namespace l.whole) (take l.row-index l.rows)
