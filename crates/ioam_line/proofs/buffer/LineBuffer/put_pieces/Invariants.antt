use Rattle.std.proofs.Common.{◌≡◌, ◌+◌, ◌++◌, ◌≤◌, length, drop}
use Rattle.ioam_line.specs.Given.{pieces_of}
use Rattle.ioam_line.specs.Line.{pieces_octets, pieces_most}
use Rattle.ioam_line.proofs.buffer.LineBuffer.put_pieces.Given as goal

abbrev pub invariant-pieces : goal.invariant-pieces
invariant-pieces g l = record {
  value : l.self ≡ pieces_octets l.form (pieces_of (drop l.left l.pieces)) ++ l.initial.self;
  size : length l.self ≤ pieces_most (pieces_of (drop l.left l.pieces)) + length l.initial.self;
  within : l.left ≤ length l.pieces;
}

abbrev pub decreases-pieces : goal.decreases-pieces
decreases-pieces g l = l.left
