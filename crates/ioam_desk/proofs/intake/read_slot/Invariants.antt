use Rattle.std.proofs.Common.{◌≡◌, length}
use Rattle.ioam_desk.proofs.IntakeLaws.{Took}
use Rattle.ioam_desk.proofs.intake.read_slot.Given as goal

-- all that was handed out was taken
abbrev pub invariant-pieces : goal.invariant-pieces
invariant-pieces g l = record {
  took : Took g.T.Intake.stands g.T.Intake.room g.D.Desk.tells l.initial.intake (g.D.Desk.reading l.initial.desk) l.slot (g.D.Desk.reading l.desk) l.intake;
  room : length l.piece ≡ 65536;
  outputs : g.D.Desk.writing l.desk ≡ g.D.Desk.writing l.initial.desk;
}

-- how many octets may still be read
abbrev pub decreases-pieces : goal.decreases-pieces
decreases-pieces g l = g.T.Intake.room l.intake
