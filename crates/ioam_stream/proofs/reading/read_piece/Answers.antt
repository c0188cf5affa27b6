use Rattle.std.proofs.Common.{take, Ok, Err, arith}
use Rattle.ioam_desk.specs.declared.fault.DeskFault.TheVariants.{Failed, NoMemory}
use Rattle.ioam_desk.specs.Touches.{state}
use Rattle.ioam_stream.proofs.StreamsLaws.{piece_seen, end_seen, none_given, some_given, piece_touches}
use Rattle.ioam_stream.proofs.reading.read_piece.Goals as goal

pub returns-in-Ok-eq0-clause-read : goal.returns-in-Ok-eq0-clause-read
returns-in-Ok-eq0-clause-read g c = (
  c.end.ensures.room,
  λ seen so_far fed is_open stands.
      let now = end_seen g.S.Stage.kind g.D.Desk.tells g.start (state (g.D.Desk.reading c.args.desk.now) (g.D.Desk.writing c.args.desk.now)) (state (g.D.Desk.reading c.read.new.self) (g.D.Desk.writing c.read.new.self)) c.args.input c.args.slot seen c.requires.1.1.1.1.0 (none_given _ _ _ _ _ c.in-Ok-eq0.field-0 c.in-Ok-eq0.field-0-test c.in-Ok-eq0.ensures.read.1) fed in
      (now.0, now.1.cut, now.2, c.end.ensures.stands g.start.begun seen now.0 so_far now.1 stands),
)

pub returns-in-Ok-feed-clause-read : goal.returns-in-Ok-feed-clause-read
returns-in-Ok-feed-clause-read g c = (
  c.in-Ok-feed.ensures.room,
  λ seen so_far fed is_open stands.
      let now = piece_seen g.S.Stage.kind g.D.Desk.tells g.start (state (g.D.Desk.reading c.args.desk.now) (g.D.Desk.writing c.args.desk.now)) (state (g.D.Desk.reading c.read.new.self) (g.D.Desk.writing c.read.new.self)) c.args.input c.args.slot (take c.in-Ok.count c.read.new.into) seen c.requires.1.1.1.1.0 c.in-Ok.ensures.read.1 (some_given c.read.new.into c.in-Ok.count (omega arith) c.in-Ok.ensures.read.0) fed is_open in
      (now.0, now.1.cut, now.2, c.in-Ok-feed.ensures.stands g.start.begun seen now.0 so_far now.1 stands),
)

pub returns-in-Ok-eq0-clause-touches : goal.returns-in-Ok-eq0-clause-touches
returns-in-Ok-eq0-clause-touches g c = piece_touches g.D.Desk.tells (state (g.D.Desk.reading c.args.desk.now) (g.D.Desk.writing c.args.desk.now)) (state (g.D.Desk.reading c.read.new.self) (g.D.Desk.writing c.read.new.self)) g.start.base_in c.args.input c.args.slot c.read.new.into (Ok c.in-Ok-eq0.field-0)
    c.requires.1.1.1.1.0 c.in-Ok-eq0.ensures.read c.in-Ok-eq0.ensures.outputs

pub returns-in-Ok-feed-clause-touches : goal.returns-in-Ok-feed-clause-touches
returns-in-Ok-feed-clause-touches g c = piece_touches g.D.Desk.tells (state (g.D.Desk.reading c.args.desk.now) (g.D.Desk.writing c.args.desk.now)) (state (g.D.Desk.reading c.read.new.self) (g.D.Desk.writing c.read.new.self)) g.start.base_in c.args.input c.args.slot c.read.new.into (Ok c.in-Ok.count)
    c.requires.1.1.1.1.0 c.in-Ok.ensures.read c.in-Ok.ensures.outputs

pub returns-in-Err-clause-touches : goal.returns-in-Err-clause-touches
returns-in-Err-clause-touches g c = piece_touches g.D.Desk.tells (state (g.D.Desk.reading c.args.desk.now) (g.D.Desk.writing c.args.desk.now)) (state (g.D.Desk.reading c.read.new.self) (g.D.Desk.writing c.read.new.self)) g.start.base_in c.args.input c.args.slot c.read.new.into (Ok c.in-Ok.count)
    c.requires.1.1.1.1.0 c.in-Ok.ensures.read c.in-Ok.ensures.outputs

pub returns-in-Err-Failed-clause-touches : goal.returns-in-Err-Failed-clause-touches
returns-in-Err-Failed-clause-touches g c = piece_touches g.D.Desk.tells (state (g.D.Desk.reading c.args.desk.now) (g.D.Desk.writing c.args.desk.now)) (state (g.D.Desk.reading c.read.new.self) (g.D.Desk.writing c.read.new.self)) g.start.base_in c.args.input c.args.slot c.read.new.into (Err Failed)
    c.requires.1.1.1.1.0 (rw c.in-Err-Failed.field-0-is at c.in-Err-Failed.ensures.read) c.in-Err-Failed.ensures.outputs

pub returns-in-Err-NoMemory-clause-touches : goal.returns-in-Err-NoMemory-clause-touches
returns-in-Err-NoMemory-clause-touches g c = piece_touches g.D.Desk.tells (state (g.D.Desk.reading c.args.desk.now) (g.D.Desk.writing c.args.desk.now)) (state (g.D.Desk.reading c.read.new.self) (g.D.Desk.writing c.read.new.self)) g.start.base_in c.args.input c.args.slot c.read.new.into (Err NoMemory)
    c.requires.1.1.1.1.0 (rw c.in-Err-NoMemory.field-0-is at c.in-Err-NoMemory.ensures.read) c.in-Err-NoMemory.ensures.outputs
