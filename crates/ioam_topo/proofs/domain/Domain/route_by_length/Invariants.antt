use Rattle.std.proofs.Common.{◌≡◌, drop}
use Rattle.ioam_topo.specs.Domain.{routes}
use Rattle.ioam_topo.specs.Forward.{longest, bits_of, fits}
use Rattle.ioam_topo.specs.Index.{first_there}
use Rattle.ioam_topo.proofs.IndexLaws.{by_length}
use Rattle.ioam_topo.proofs.domain.Domain.route_by_length.Given as goal

abbrev pub invariant-loop-length : goal.invariant-loop-length
invariant-loop-length l = first_there (by_length (routes l.self) l.node.0 l.target) (drop l.length-index l.length-items) ≡ longest bits_of (fits l.node.0 l.target) (routes l.self)
