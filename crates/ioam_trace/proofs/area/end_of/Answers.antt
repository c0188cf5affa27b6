use Rattle.std.proofs.Common.{arith, ◌++◌, ◌∷◌, []}
use Rattle.ioam_trace.specs.Area.{element_at}
use Rattle.ioam_trace.proofs.AreaLaws.{Runs-push}
use Rattle.ioam_trace.proofs.area.end_of.Goals as goal

pub elements-preserved : goal.elements-preserved
elements-preserved c =
    let here = c.in-Some.ensures in
    let passed = c.elements.invariant.runs in
    record {
      inside = omega (arith, here.0.inside);
      runs = (
        passed.0 ++ element_at c.args.kind c.args.node_len c.args.used.now c.elements.at ∷ [],
        Runs-push c.args.kind c.args.node_len c.args.used.now 0 passed.0 c.elements.at c.in-Some.size passed.1 here.0 here.1,
      );
    }
