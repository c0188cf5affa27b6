use Rattle.std.proofs.Common.{◌≡◌, [], drop}
use Rattle.ioam_topo_values.specs.Entries.{apart_from}
use Rattle.ioam_topo_values.proofs.spaces.are_apart.Given as goal

abbrev pub invariant-loop-space : goal.invariant-loop-space
invariant-loop-space l = apart_from l.seen.keys (drop l.space-index l.spaces) ≡ apart_from [] l.spaces
