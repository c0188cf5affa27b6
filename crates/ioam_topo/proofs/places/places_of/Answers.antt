use Rattle.std.proofs.Common.{rules}
use Rattle.std.specs.HashMap.{get}
use Rattle.ioam_topo.proofs.PlacesLaws.{place_more, places_all}
use Rattle.ioam_topo.proofs.places.places_of.Goals as goal

pub keys-preserved : goal.keys-preserved
keys-preserved g c = (
  search rules,
  place_more g.K.PartialEq.eq g.met.K.Eq.laws.symm c.keys.left c.index-keys-left.result c.args.keys.now (get g.K.PartialEq.eq c.keys.places) (get g.K.PartialEq.eq c.insert.new.self)
      c.keys-test.true c.keys.invariant.0 c.index-keys-left.is c.keys.invariant.1 c.in_ok-insert.ensures.updates.0,
)

pub returns : goal.returns
returns g c = places_all g.K.PartialEq.eq c.keys.left c.args.keys.now (get g.K.PartialEq.eq c.keys.places) c.keys-test.false c.keys.invariant.1
