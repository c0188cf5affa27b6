use Rattle.std.proofs.Common.{◌≤◌, drop, length}
use Rattle.std.specs.HashMap.{get}
use Rattle.ioam_topo.proofs.PlacesLaws.{ArePlacesFrom}
use Rattle.ioam_topo.proofs.places.places_of.Given as goal

abbrev pub invariant-keys : goal.invariant-keys
invariant-keys g l = (l.left ≤ length l.keys) × ArePlacesFrom g.K.PartialEq.eq l.left (drop l.left l.keys) (get g.K.PartialEq.eq l.places)

abbrev pub decreases-keys : goal.decreases-keys
decreases-keys g l = l.left
