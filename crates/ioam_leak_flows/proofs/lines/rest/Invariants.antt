use Rattle.std.proofs.Common.{◌≡◌, take}
use Rattle.ioam_leak_flows.specs.Lines.{rest_of}
use Rattle.ioam_leak_flows.proofs.lines.rest.Given as goal

abbrev pub invariant-rows : goal.invariant-rows
invariant-rows l = l.rest ≡ rest_of l.leaks (take l.row-index l.rows)
