use Rattle.std.proofs.Common.{◌≡◌, ◌++◌, flat_map, take}
use Rattle.ioam_delay_lines.specs.Spaces.{way_line}
use Rattle.ioam_delay_lines.proofs.spaces.put_ways_of.Given as goal

abbrev pub invariant-rows : goal.invariant-rows
invariant-rows l = l.out.items ≡ l.initial.out.items ++ flat_map (way_line l.namespace l.traces l.count) (take l.row-index l.rows)
