use Rattle.std.proofs.Common.{◌≡◌, drop}
use Rattle.ioam_capture.specs.Turn.{turn_from}
use Rattle.ioam_capture.proofs.turns.next_turn.Given as goal

-- the turn of the captures from this place on
abbrev pub invariant-loop-place : goal.invariant-loop-place
invariant-loop-place l = l.turn ≡ turn_from l.place (drop l.place l.dues)
