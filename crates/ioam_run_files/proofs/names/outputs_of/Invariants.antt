use Rattle.std.proofs.Common.{◌≡◌, take, map}
use Rattle.ioam_run_files.proofs.names.outputs_of.Given as goal

-- the names of the ports so far
abbrev pub invariant-ports : goal.invariant-ports
invariant-ports l = l.names.items ≡ map (λ port. port.output) (take l.port-index l.ports)
