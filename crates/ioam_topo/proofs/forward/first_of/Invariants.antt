use Rattle.std.proofs.Common.{◌≡◌, drop}
use Rattle.std.specs.List.{find}
use Rattle.ioam_topo.specs.Index.{takes}
use Rattle.ioam_topo.proofs.forward.first_of.Given as goal

abbrev pub invariant-loop-own : goal.invariant-loop-own
invariant-loop-own l = find (takes l.target) (drop l.own-index l.routes) ≡ find (takes l.target) l.routes
