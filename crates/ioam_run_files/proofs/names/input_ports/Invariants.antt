use Rattle.std.proofs.Common.{◌≡◌, take}
use Rattle.ioam_run_files.specs.Names.{input_ports}
use Rattle.ioam_run_files.proofs.names.input_ports.Given as goal

-- those of the ports so far
abbrev pub invariant-ports : goal.invariant-ports
invariant-ports l = l.ids.items ≡ input_ports (take l.place l.port-items)
