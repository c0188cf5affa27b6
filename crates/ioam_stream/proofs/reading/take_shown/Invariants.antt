use Rattle.std.proofs.Common.{◌≡◌, length}
use Rattle.ioam_desk.specs.Touches.{state, writes_from, Touches, Quiet}
use Rattle.ioam_desk_outputs.specs.Told.{GathersFew}
use Rattle.ioam_stream.specs.Streams.{Streams}
use Rattle.ioam_stream.proofs.reading.take_shown.Given as goal

-- the outputs were told what the stage has said
abbrev pub invariant-items : goal.invariant-items
invariant-items g l = record {
  streams : Streams g.S.Stage.kind g.D.Desk.tells g.going.start g.going.cut (state (g.D.Desk.reading l.desk) (g.D.Desk.writing l.desk)) l.stage l.outputs;
  width : length l.outputs ≡ g.S.Stage.kind.width g.going.start.begun;
  few : GathersFew l.outputs;
  unread : g.D.Desk.reading l.desk ≡ g.D.Desk.reading l.initial.desk;
  room : g.S.Stage.kind.room l.stage ≡ g.S.Stage.kind.room l.initial.stage;
  touches : Touches g.D.Desk.tells (writes_from g.going.start.base_out) Quiet (state (g.D.Desk.reading l.initial.desk) (g.D.Desk.writing l.initial.desk)) (state (g.D.Desk.reading l.desk) (g.D.Desk.writing l.desk));
}

-- what is still to be taken
abbrev pub decreases-items : goal.decreases-items
decreases-items g l = g.S.Stage.kind.held l.stage
