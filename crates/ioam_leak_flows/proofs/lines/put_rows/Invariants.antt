use Rattle.std.proofs.Common.{◌≡◌, ◌++◌, flat_map, take}
use Rattle.ioam_leak_flows.specs.Lines.{flow_line}
use Rattle.ioam_leak_flows.proofs.lines.put_rows.Given as goal

abbrev pub invariant-rows : goal.invariant-rows
invariant-rows l = l.out.items ≡ l.initial.out.items ++ flat_map flow_line (take l.row-index l.rows)
