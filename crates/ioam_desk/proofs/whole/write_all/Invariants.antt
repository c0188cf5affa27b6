use Rattle.std.proofs.Common.{length, ◌-◌, ◌≡◌, ◌≤◌, take}
use Rattle.ioam_desk.specs.Desk.{Grows}
use Rattle.ioam_desk.proofs.whole.write_all.Given as goal

-- what was written so far was appended, and no call failed
abbrev pub invariant-loop-written : goal.invariant-loop-written
invariant-loop-written g l = record {
  fits : l.written ≤ length l.octets;
  side : (g.D.Desk.writing l.desk).side ≡ (g.D.Desk.writing l.initial.desk).side;
  grows : Grows g.D.Desk.tells (g.D.Desk.writing l.initial.desk) (g.D.Desk.writing l.desk) l.slot (take l.written l.octets);
  inputs : g.D.Desk.reading l.desk ≡ g.D.Desk.reading l.initial.desk;
}

abbrev pub decreases-loop-written : goal.decreases-loop-written
decreases-loop-written g l = length l.octets - l.written
