use Rattle.std.proofs.Common.{◌≡◌, drop}
use Rattle.ioam_topo.specs.Finding.{encloses}
use Rattle.ioam_topo.specs.Index.{first_place}
use Rattle.ioam_topo.proofs.lookups_data.first_of.Given as goal

abbrev pub invariant-loop-at : goal.invariant-loop-at
invariant-loop-at l = first_place (encloses l.node.0 l.source l.target) l.flows (drop l.at-index l.places) ≡ first_place (encloses l.node.0 l.source l.target) l.flows l.places
