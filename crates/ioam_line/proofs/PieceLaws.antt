-- Laws of pieces in a row.
use Rattle.std.proofs.Common.{◌≡◌, ℕ, zero, suc, ◌+◌, ◌<◌, ◌≤◌, List, [], ◌∷◌, length, drop, get_or, ap, arith}
use Rattle.std.proofs.lemmas.List.{drop_more}
use Rattle.ioam_line.specs.Given.{piece_of, pieces_of}
use Rattle.ioam_line.specs.Line.{piece_most, pieces_most}
use Rattle.ioam_line.specs.declared.piece.Piece.{Piece}

-- some of the last pieces have no more octets than all
most_dropped : (n : ℕ) (pieces : List Piece) → pieces_most (pieces_of (drop n pieces)) ≤ pieces_most (pieces_of pieces)
most_dropped zero pieces = omega arith
most_dropped (suc n) [] = omega arith
most_dropped (suc n) (piece ∷ pieces) = omega (arith, most_dropped n pieces)

-- a piece before the last ones has room where all have
pub most_before : (n behind old most held : ℕ) (none : Piece) (pieces : List Piece) → behind ≡ n + 1 → n < length pieces
    → pieces_most (pieces_of pieces) + old ≤ most → held ≤ pieces_most (pieces_of (drop behind pieces)) + old
    → piece_most (piece_of (get_or pieces n none)) + held ≤ most
most_before n behind old most held none pieces is inside room some =
    let all = most_dropped n pieces in
    let first = ap (λ xs. pieces_most (pieces_of xs)) (drop_more pieces n none inside) in
    let same = ap (λ k. pieces_most (pieces_of (drop k pieces))) is in
    omega (arith, room, some, all, first, same)
