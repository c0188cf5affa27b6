use Rattle.std.proofs.Common.{◌≡◌, drop, ap, ◌∙◌, subst, sym, arith}
use Rattle.ioam_capture.specs.Turn.{IsTurn, turn_from, turn_of}
use Rattle.ioam_capture.proofs.TurnLaws.{turn_says}
use Rattle.ioam_capture.proofs.turns.next_turn.Goals as goal

pub returns-clause-says : goal.returns-clause-says
returns-clause-says c =
    let first : c.loop-place.place ≡ 0 = omega arith in
    let same : c.loop-place.turn ≡ turn_of c.args.dues.now = c.loop-place.invariant ∙ ap (λ n. turn_from n (drop n c.args.dues.now)) first in
    subst (IsTurn c.args.dues.now) (sym same) (turn_says c.args.dues.now)
