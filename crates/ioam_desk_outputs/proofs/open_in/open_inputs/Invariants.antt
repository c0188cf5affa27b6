use Rattle.std.proofs.Common.{◌≡◌, [], length, take}
use Rattle.ioam_desk.specs.Desk.{opened_each}
use Rattle.ioam_desk.specs.Touches.{Touches, state, Quiet, opening}
use Rattle.ioam_desk_outputs.specs.Open.{AreSlots, AreUnended, AreUnread}
use Rattle.ioam_desk_outputs.proofs.open_in.open_inputs.Given as goal

-- the inputs so far are open and unread
abbrev pub invariant-names : goal.invariant-names
invariant-names g l = record {
  slots : AreSlots (g.D.Desk.reading l.initial.desk).side.slots (length (take l.name-index l.names)) l.slots.items;
  side : (g.D.Desk.reading l.desk).side ≡ opened_each (g.D.Desk.reading l.initial.desk).side (take l.name-index l.names);
  unread : AreUnread g.D.Desk.tells (g.D.Desk.reading l.initial.desk) (g.D.Desk.reading l.desk) (g.D.Desk.writing l.initial.desk) l.names;
  unended : AreUnended (g.D.Desk.reading l.initial.desk) (g.D.Desk.reading l.desk);
  none : length l.names ≡ 0 → g.D.Desk.reading l.desk ≡ g.D.Desk.reading l.initial.desk;
  outputs : (g.D.Desk.writing l.desk) ≡ (g.D.Desk.writing l.initial.desk);
  touches : Touches g.D.Desk.tells (opening l.names []) Quiet (state (g.D.Desk.reading l.initial.desk) (g.D.Desk.writing l.initial.desk)) (state (g.D.Desk.reading l.desk) (g.D.Desk.writing l.desk));
}
