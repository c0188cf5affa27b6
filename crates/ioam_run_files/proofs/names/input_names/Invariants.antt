use Rattle.std.proofs.Common.{◌≡◌, take}
use Rattle.ioam_run_files.specs.Names.{input_names}
use Rattle.ioam_run_files.proofs.names.input_names.Given as goal

-- the names of the ports so far
abbrev pub invariant-ports : goal.invariant-ports
invariant-ports l = l.names.items ≡ input_names (take l.port-index l.port-items)
