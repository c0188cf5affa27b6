use Rattle.ioam_desk.specs.Touches.{state}
use Rattle.std.proofs.Common.{rules}
use Rattle.ioam_stream.proofs.StreamsLaws.{pauses_cut, streams_cut}
use Rattle.ioam_stream.proofs.reading.take_rest.Goals as goal

pub take_shown-requires : goal.take_shown-requires
take_shown-requires g c κs within = (
  search rules,
  (
    search rules,
    (
      streams_cut g.S.Stage.kind g.D.Desk.tells g.start (state (g.D.Desk.reading c.args.desk.now) (g.D.Desk.writing c.args.desk.now)) c.args.stage.now c.cut.new.self c.args.outputs.now c.cut.ensures c.requires.1.1.0,
      (c.requires.1.1.1.1.0, c.requires.1.1.1.1.1),
    ),
  ),
)

pub returns-in-Ok-clause-stopped : goal.returns-in-Ok-clause-stopped
returns-in-Ok-clause-stopped g c = pauses_cut g.S.Stage.kind g.D.Desk.tells g.start (state (g.D.Desk.reading c.take_shown.new.desk) (g.D.Desk.writing c.take_shown.new.desk)) c.take_shown.new.stage c.take_shown.new.outputs c.in-Ok._pause c.in-Ok.ensures.paused
