use Rattle.std.proofs.Common.{arith, length-take-le}
use Rattle.ioam_ng.specs.Front.{Known}
use Rattle.ioam_ng.proofs.BlockLaws.{block_told}
use Rattle.ioam_ng.proofs.block.block_step.Goals as goal

pub returns-in-Ok : goal.returns-in-Ok
returns-in-Ok c =
    let known : Known = record { count = c.args.count; order = c.args.known; faces = c.args.faces.now } in
    let e = c.in-There.ensures in
    let front = c.in-There.front in
    block_told known c.args.octets.now front e.2 e.3 e.1 (omega arith) c.in-Ok.content e.0 (length-take-le front.size c.args.octets.now (omega arith)) c.in-Ok.ensures.0 c.in-Ok.ensures.1
