use Rattle.std.proofs.Common.{arith}
use Rattle.ioam_desk.proofs.piece.new_piece.Goals as goal

pub returns : goal.returns
returns c = omega (arith, c.in_ok-resize.ensures.len, c.resize.new.self.ok.0)
