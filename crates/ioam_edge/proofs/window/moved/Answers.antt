use Rattle.std.proofs.lemmas.Nat.{pow_pos}
use Rattle.ioam_edge.proofs.WindowLaws.{Moved-shift, Moved-far}
use Rattle.ioam_edge.proofs.window.moved.Goals as goal

pub returns-then-by-lt64 : goal.returns-then-by-lt64
returns-then-by-lt64 c = Moved-shift c.args.window c.args.by c.requires (pow_pos c.args.by)

pub returns-else-by-lt64 : goal.returns-else-by-lt64
returns-else-by-lt64 c = Moved-far c.args.window c.args.by c.if-by-lt64.false
