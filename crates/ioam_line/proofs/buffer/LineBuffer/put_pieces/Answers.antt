use Rattle.std.proofs.Common.{◌≡◌, ◌+◌, ◌-◌, ◌<◌, length, arith, rules}
use Rattle.ioam_line.proofs.PieceLaws.{most_before}
use Rattle.ioam_line.proofs.buffer.LineBuffer.put_pieces.Goals as goal

pub put_piece-requires : goal.put_piece-requires
put_piece-requires g c =
    let is : c.pieces.left ≡ c.pieces.left - 1 + 1 = omega (arith, c.pieces-test.true) in
    let inside : c.pieces.left - 1 < length c.args.pieces.now = omega (arith, c.pieces-test.true, c.pieces.invariant.within) in
    (search rules, most_before _ _ _ _ _ _ c.args.pieces.now is inside c.requires c.pieces.invariant.size)
