use Rattle.std.proofs.Common.{◌≡◌, ◌++◌, flat_map, take}
use Rattle.ioam_delay_lines.specs.Spaces.{node_line}
use Rattle.ioam_delay_lines.proofs.spaces.put_nodes.Given as goal

abbrev pub invariant-rows : goal.invariant-rows
invariant-rows l = l.out.items ≡ l.initial.out.items ++ flat_map (node_line l.namespace) (take l.row-index l.rows)
