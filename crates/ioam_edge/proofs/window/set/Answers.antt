use Rattle.ioam_edge.proofs.WindowLaws.{Set-shift}
use Rattle.ioam_edge.proofs.window.set.Goals as goal

pub returns-then-bit-lt64 : goal.returns-then-bit-lt64
returns-then-bit-lt64 c = Set-shift c.args.window c.args.bit c.if-bit-lt64.true
