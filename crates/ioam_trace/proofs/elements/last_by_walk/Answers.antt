use Rattle.std.proofs.Common.{arith, refl}
use Rattle.ioam_trace.proofs.AreaLaws.{IsLast-Follows}
use Rattle.ioam_trace.proofs.elements.last_by_walk.Goals as goal

pub elements-preserved : goal.elements-preserved
elements-preserved c =
    let here = c.in-Some.ensures in
    record {
      inside = omega (arith, here.0.inside);
      follows = (
        IsLast-Follows c.args.kind c.args.node_len c.args.used.now c.elements.last c.elements.at c.in-Some.size
            c.elements.invariant.follows here.0 here.1,
        refl,
      );
    }
