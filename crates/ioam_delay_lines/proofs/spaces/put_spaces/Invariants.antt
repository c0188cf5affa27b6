use Rattle.std.proofs.Common.{◌≡◌, ◌++◌, flat_map, take}
use Rattle.ioam_delay_lines.specs.Spaces.{space_lines}
use Rattle.ioam_delay_lines.proofs.spaces.put_spaces.Given as goal

abbrev pub invariant-rows : goal.invariant-rows
invariant-rows l = l.out.items ≡ l.initial.out.items ++ flat_map (space_lines l.sums) (take l.row-index l.sums.spaces.rows.items)
