use Rattle.std.proofs.Common.{◌≡◌, ◌∷◌, ◌++◌, [], take}
use Rattle.std.specs.List.{flat_map}
use Rattle.ioam_run_files.specs.Names.{input_of}
use Rattle.ioam_run_files.proofs.names.push_captures.Given as goal

-- the names of the ports so far
abbrev pub invariant-ports : goal.invariant-ports
invariant-ports l = l.names.items ≡ l.initial.names.items ++ flat_map (λ port. input_of port.input ++ port.output ∷ []) (take l.port-index l.ports)
