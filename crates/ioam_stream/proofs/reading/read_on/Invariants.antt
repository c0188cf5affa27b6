use Rattle.std.proofs.Common.{false, ◌≡◌, ◌<◌, ◌≤◌, length}
use Rattle.ioam_desk.specs.Touches.{state, Touches, Quiet}
use Rattle.ioam_desk_outputs.specs.Told.{GathersFew}
use Rattle.ioam_stream.specs.Streams.{Streams, streams_from}
use Rattle.ioam_stream.proofs.reading.read_on.Given as goal

-- the outputs were told what the stage has said
abbrev pub invariant-pieces : goal.invariant-pieces
invariant-pieces g l = record {
  streams : Streams g.S.Stage.kind g.D.Desk.tells g.start false (state (g.D.Desk.reading l.desk) (g.D.Desk.writing l.desk)) l.stage l.outputs;
  width : length l.outputs ≡ g.S.Stage.kind.width g.start.begun;
  alone : g.S.Stage.kind.inputs g.start.begun ≡ 0 → g.D.Desk.reading l.desk ≡ g.D.Desk.reading l.initial.desk;
  few : GathersFew l.outputs;
  room : (0 < length l.piece) × (length l.piece ≤ 65536);
  touches : Touches g.D.Desk.tells (streams_from g.start.base_in g.start.base_out) Quiet (state (g.D.Desk.reading l.initial.desk) (g.D.Desk.writing l.initial.desk)) (state (g.D.Desk.reading l.desk) (g.D.Desk.writing l.desk));
}

-- what may still be fed
abbrev pub decreases-pieces : goal.decreases-pieces
decreases-pieces g l = g.S.Stage.kind.room l.stage

abbrev pub ghost-take_shown : goal.ghost-take_shown
ghost-take_shown g a = record { start = g.start; cut = false }

abbrev pub ghost-read_piece : goal.ghost-read_piece
ghost-read_piece g a = g.start

abbrev pub ghost-take_rest : goal.ghost-take_rest
ghost-take_rest g a = g.start
