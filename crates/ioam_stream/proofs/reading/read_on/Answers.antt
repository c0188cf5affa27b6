use Rattle.std.proofs.Common.{◌∙◌, refl, false, rules, subst, arith, sym, Ok, Err}
use Rattle.ioam_desk.specs.Touches.{state, reads_from, writes_from, Quiet, Read, Output}
use Rattle.ioam_desk.specs.declared.fault.DeskFault.TheVariants.{Failed, NoMemory}
use Rattle.ioam_desk.proofs.TouchesLaws.{touches-none, touches-within, touches-quiet_late, touches-rest}
use Rattle.ioam_desk_outputs.proofs.ToldLaws.{AreTold-open}
use Rattle.ioam_stream.specs.Streams.{streams_from}
use Rattle.ioam_stream.proofs.StreamsLaws.{waiting_fed, waiting_unread, waiting_sticks, waiting_written, late_sticks, none_waits, within_writes, within_reads}
use Rattle.ioam_stream.proofs.FrameLaws.{no_fault, no_read_ended, no_unread}
use Rattle.ioam_stream.proofs.reading.read_on.Goals as goal

pub returns-in-Ok-End-clause-touches : goal.returns-in-Ok-End-clause-touches
returns-in-Ok-End-clause-touches g c = touches-within g.D.Desk.tells (streams_from g.start.base_in g.start.base_out) (writes_from g.start.base_out) Quiet _ _ _
    (within_writes g.start.base_in g.start.base_out) c.pieces.invariant.touches c.in-Ok-End.ensures.touches

pub returns-in-Err-Failed-clause-touches : goal.returns-in-Err-Failed-clause-touches
returns-in-Err-Failed-clause-touches g c = touches-within g.D.Desk.tells (streams_from g.start.base_in g.start.base_out) (writes_from g.start.base_out) Output _ _ _
    (within_writes g.start.base_in g.start.base_out) c.pieces.invariant.touches (rw c.in-Err-Failed.field-0-is at c.in-Err-Failed.ensures.touches)

pub returns-in-Err-NoMemory-clause-touches : goal.returns-in-Err-NoMemory-clause-touches
returns-in-Err-NoMemory-clause-touches g c = touches-quiet_late g.D.Desk.tells (streams_from g.start.base_in g.start.base_out) _ _
    (touches-within g.D.Desk.tells (streams_from g.start.base_in g.start.base_out) (writes_from g.start.base_out) Quiet _ _ _
    (within_writes g.start.base_in g.start.base_out) c.pieces.invariant.touches (rw c.in-Err-NoMemory.field-0-is at c.in-Err-NoMemory.ensures.touches))

pub flush_late-requires : goal.flush_late-requires
flush_late-requires g c =
    let waiting = rw c.in-Ok-More.field-0-is at c.in-Ok-More.ensures.paused in
    let shown = waiting.streams in
    record {
      are_open = AreTold-open g.D.Desk.tells (g.D.Desk.writing c.take_shown.new.desk) g.start.base_out g.start.names c.take_shown.new.outputs shown.so_far shown.told;
      few = c.in-Ok-More.ensures.few;
    }

pub returns-in-Err-Failed-flush_late-clause-stops : goal.returns-in-Err-Failed-flush_late-clause-stops
returns-in-Err-Failed-flush_late-clause-stops g c =
    let waiting = rw c.in-Ok-More.field-0-is at c.in-Ok-More.ensures.paused in
    let shown = waiting.streams in
    let late = rw c.in-Err-Failed-flush_late.field-0-is at c.in-Err-Failed-flush_late.ensures.touches g.start.base_out g.start.names shown.so_far shown.told in
    late_sticks g.S.Stage.kind g.D.Desk.tells g.start g.met.S.Stage.lawful (state (g.D.Desk.reading c.take_shown.new.desk) (g.D.Desk.writing c.take_shown.new.desk)) (state (g.D.Desk.reading c.flush_late.new.desk) (g.D.Desk.writing c.flush_late.new.desk)) Output c.take_shown.new.stage c.take_shown.new.outputs c.flush_late.new.outputs
    c.in-Ok-More.input (omega (arith, c.pieces.invariant.width, c.take_shown.auto.outputs, c.flush_late.auto.outputs)) c.in-Err-Failed-flush_late.ensures.told late waiting

pub returns-in-Err-Failed-flush_late-clause-touches : goal.returns-in-Err-Failed-flush_late-clause-touches
returns-in-Err-Failed-flush_late-clause-touches g c =
    let waiting = rw c.in-Ok-More.field-0-is at c.in-Ok-More.ensures.paused in
    let shown = waiting.streams in
    let late = rw c.in-Err-Failed-flush_late.field-0-is at c.in-Err-Failed-flush_late.ensures.touches g.start.base_out g.start.names shown.so_far shown.told in
    touches-within g.D.Desk.tells (streams_from g.start.base_in g.start.base_out) (writes_from g.start.base_out) Output _ _ _ (within_writes g.start.base_in g.start.base_out)
    (touches-within g.D.Desk.tells (streams_from g.start.base_in g.start.base_out) (writes_from g.start.base_out) Quiet _ _ _ (within_writes g.start.base_in g.start.base_out) c.pieces.invariant.touches c.in-Ok-More.ensures.touches) late

pub returns-in-Err-NoMemory-flush_late-clause-stops : goal.returns-in-Err-NoMemory-flush_late-clause-stops
returns-in-Err-NoMemory-flush_late-clause-stops g c =
    let waiting = rw c.in-Ok-More.field-0-is at c.in-Ok-More.ensures.paused in
    let shown = waiting.streams in
    let late = rw c.in-Err-NoMemory-flush_late.field-0-is at c.in-Err-NoMemory-flush_late.ensures.touches g.start.base_out g.start.names shown.so_far shown.told in
    late_sticks g.S.Stage.kind g.D.Desk.tells g.start g.met.S.Stage.lawful (state (g.D.Desk.reading c.take_shown.new.desk) (g.D.Desk.writing c.take_shown.new.desk)) (state (g.D.Desk.reading c.flush_late.new.desk) (g.D.Desk.writing c.flush_late.new.desk)) Quiet c.take_shown.new.stage c.take_shown.new.outputs c.flush_late.new.outputs
    c.in-Ok-More.input (omega (arith, c.pieces.invariant.width, c.take_shown.auto.outputs, c.flush_late.auto.outputs)) c.in-Err-NoMemory-flush_late.ensures.told late waiting

pub returns-in-Err-NoMemory-flush_late-clause-touches : goal.returns-in-Err-NoMemory-flush_late-clause-touches
returns-in-Err-NoMemory-flush_late-clause-touches g c =
    let waiting = rw c.in-Ok-More.field-0-is at c.in-Ok-More.ensures.paused in
    let shown = waiting.streams in
    let late = rw c.in-Err-NoMemory-flush_late.field-0-is at c.in-Err-NoMemory-flush_late.ensures.touches g.start.base_out g.start.names shown.so_far shown.told in
    touches-quiet_late g.D.Desk.tells (streams_from g.start.base_in g.start.base_out) _ _
    (touches-within g.D.Desk.tells (streams_from g.start.base_in g.start.base_out) (writes_from g.start.base_out) Quiet _ _ _ (within_writes g.start.base_in g.start.base_out)
    (touches-within g.D.Desk.tells (streams_from g.start.base_in g.start.base_out) (writes_from g.start.base_out) Quiet _ _ _ (within_writes g.start.base_in g.start.base_out) c.pieces.invariant.touches c.in-Ok-More.ensures.touches) late)

pub pieces-preserved : goal.pieces-preserved
pieces-preserved g c =
    let waiting = rw c.in-Ok-More.field-0-is at c.in-Ok-More.ensures.paused in
    let shown = waiting.streams in
    let late = c.in-Ok.ensures.touches g.start.base_out g.start.names shown.so_far shown.told in
    let flushed = waiting_written g.S.Stage.kind g.D.Desk.tells g.start false (state (g.D.Desk.reading c.take_shown.new.desk) (g.D.Desk.writing c.take_shown.new.desk)) (state (g.D.Desk.reading c.flush_late.new.desk) (g.D.Desk.writing c.flush_late.new.desk)) Quiet c.take_shown.new.stage c.take_shown.new.outputs c.flush_late.new.outputs
    c.in-Ok-More.input c.in-Ok.ensures.told late waiting in
    let before = touches-within g.D.Desk.tells (streams_from g.start.base_in g.start.base_out) (writes_from g.start.base_out) Quiet _ _ _ (within_writes g.start.base_in g.start.base_out)
    (touches-within g.D.Desk.tells (streams_from g.start.base_in g.start.base_out) (writes_from g.start.base_out) Quiet _ _ _ (within_writes g.start.base_in g.start.base_out) c.pieces.invariant.touches c.in-Ok-More.ensures.touches) late in
    let refills = c.in-Fed.ensures.read in
    record {
      streams = waiting_fed g.S.Stage.kind g.D.Desk.tells g.start g.start.base_in (state (g.D.Desk.reading c.flush_late.new.desk) (g.D.Desk.writing c.flush_late.new.desk)) (state (g.D.Desk.reading c.read_piece.new.desk) (g.D.Desk.writing c.read_piece.new.desk)) c.take_shown.new.stage c.read_piece.new.stage c.flush_late.new.outputs
          c.in-Ok-More.input c.in-Fed.ensures.touches refills.1 flushed;
      width = omega (arith, c.pieces.invariant.width, c.take_shown.auto.outputs, c.flush_late.auto.outputs);
      alone = λ none. none_waits c.in-Ok-More.input (g.S.Stage.kind.inputs g.start.begun) waiting.inside none;
      few = c.in-Ok.ensures.few;
      room = (omega (arith, c.pieces.invariant.room.0, c.read_piece.auto.piece), omega (arith, c.pieces.invariant.room.1, c.read_piece.auto.piece));
      touches = touches-within g.D.Desk.tells (streams_from g.start.base_in g.start.base_out) (reads_from g.start.base_in) Quiet _ _ _ (within_reads g.start.base_in g.start.base_out) before c.in-Fed.ensures.touches;
    }

pub take_rest-requires : goal.take_rest-requires
take_rest-requires g c κs within =
    let waiting = rw c.in-Ok-More.field-0-is at c.in-Ok-More.ensures.paused in
    let shown = waiting.streams in
    let late = c.in-Ok.ensures.touches g.start.base_out g.start.names shown.so_far shown.told in
    let flushed = waiting_written g.S.Stage.kind g.D.Desk.tells g.start false (state (g.D.Desk.reading c.take_shown.new.desk) (g.D.Desk.writing c.take_shown.new.desk)) (state (g.D.Desk.reading c.flush_late.new.desk) (g.D.Desk.writing c.flush_late.new.desk)) Quiet c.take_shown.new.stage c.take_shown.new.outputs c.flush_late.new.outputs
    c.in-Ok-More.input c.in-Ok.ensures.told late waiting in
    let refills = c.in-ReadFault.ensures.read in (
      search rules,
      (
        search rules,
        (
          waiting_unread g.S.Stage.kind g.D.Desk.tells g.start g.start.base_in Read (state (g.D.Desk.reading c.flush_late.new.desk) (g.D.Desk.writing c.flush_late.new.desk)) (state (g.D.Desk.reading c.read_piece.new.desk) (g.D.Desk.writing c.read_piece.new.desk)) c.take_shown.new.stage c.read_piece.new.stage c.flush_late.new.outputs
              c.in-Ok-More.input refills.0 c.in-ReadFault.ensures.touches refills.1 refills.2 flushed,
          (
            (let P : _ → Type 0 = λ s. g.S.Stage.kind.waits s c.in-Ok-More.input in subst P (sym refills.0) waiting.waits),
            (omega (arith, c.pieces.invariant.width, c.take_shown.auto.outputs, c.flush_late.auto.outputs), c.in-Ok.ensures.few),
          ),
        ),
      ),
    )

pub returns-in-NoMemory-clause-stops : goal.returns-in-NoMemory-clause-stops
returns-in-NoMemory-clause-stops g c =
    let waiting = rw c.in-Ok-More.field-0-is at c.in-Ok-More.ensures.paused in
    let shown = waiting.streams in
    let late = c.in-Ok.ensures.touches g.start.base_out g.start.names shown.so_far shown.told in
    let flushed = waiting_written g.S.Stage.kind g.D.Desk.tells g.start false (state (g.D.Desk.reading c.take_shown.new.desk) (g.D.Desk.writing c.take_shown.new.desk)) (state (g.D.Desk.reading c.flush_late.new.desk) (g.D.Desk.writing c.flush_late.new.desk)) Quiet c.take_shown.new.stage c.take_shown.new.outputs c.flush_late.new.outputs
    c.in-Ok-More.input c.in-Ok.ensures.told late waiting in
    waiting_sticks g.S.Stage.kind g.D.Desk.tells g.start g.met.S.Stage.lawful g.start.base_in Quiet (state (g.D.Desk.reading c.flush_late.new.desk) (g.D.Desk.writing c.flush_late.new.desk)) (state (g.D.Desk.reading c.read_piece.new.desk) (g.D.Desk.writing c.read_piece.new.desk)) c.take_shown.new.stage c.flush_late.new.outputs
    c.in-Ok-More.input (omega (arith, c.pieces.invariant.width, c.take_shown.auto.outputs, c.flush_late.auto.outputs)) c.in-NoMemory.ensures.touches flushed

pub returns-in-NoMemory-clause-touches : goal.returns-in-NoMemory-clause-touches
returns-in-NoMemory-clause-touches g c =
    let waiting = rw c.in-Ok-More.field-0-is at c.in-Ok-More.ensures.paused in
    let shown = waiting.streams in
    let late = c.in-Ok.ensures.touches g.start.base_out g.start.names shown.so_far shown.told in
    let flushed = waiting_written g.S.Stage.kind g.D.Desk.tells g.start false (state (g.D.Desk.reading c.take_shown.new.desk) (g.D.Desk.writing c.take_shown.new.desk)) (state (g.D.Desk.reading c.flush_late.new.desk) (g.D.Desk.writing c.flush_late.new.desk)) Quiet c.take_shown.new.stage c.take_shown.new.outputs c.flush_late.new.outputs
    c.in-Ok-More.input c.in-Ok.ensures.told late waiting in
    let before = touches-within g.D.Desk.tells (streams_from g.start.base_in g.start.base_out) (writes_from g.start.base_out) Quiet _ _ _ (within_writes g.start.base_in g.start.base_out)
    (touches-within g.D.Desk.tells (streams_from g.start.base_in g.start.base_out) (writes_from g.start.base_out) Quiet _ _ _ (within_writes g.start.base_in g.start.base_out) c.pieces.invariant.touches c.in-Ok-More.ensures.touches) late in
    touches-quiet_late g.D.Desk.tells (streams_from g.start.base_in g.start.base_out) _ _
    (touches-within g.D.Desk.tells (streams_from g.start.base_in g.start.base_out) (reads_from g.start.base_in) Quiet _ _ _ (within_reads g.start.base_in g.start.base_out) before c.in-NoMemory.ensures.touches)

pub pieces-smaller : goal.pieces-smaller
pieces-smaller g c =
    let refills = c.in-Fed.ensures.read in
    omega (arith, refills.0, c.in-Ok-More.ensures.room)

pub returns-in-Ok-take_rest-clause-touches : goal.returns-in-Ok-take_rest-clause-touches
returns-in-Ok-take_rest-clause-touches g c =
    let waiting = rw c.in-Ok-More.field-0-is at c.in-Ok-More.ensures.paused in
    let shown = waiting.streams in
    let late = c.in-Ok.ensures.touches g.start.base_out g.start.names shown.so_far shown.told in
    let flushed = waiting_written g.S.Stage.kind g.D.Desk.tells g.start false (state (g.D.Desk.reading c.take_shown.new.desk) (g.D.Desk.writing c.take_shown.new.desk)) (state (g.D.Desk.reading c.flush_late.new.desk) (g.D.Desk.writing c.flush_late.new.desk)) Quiet c.take_shown.new.stage c.take_shown.new.outputs c.flush_late.new.outputs
    c.in-Ok-More.input c.in-Ok.ensures.told late waiting in
    let before = touches-within g.D.Desk.tells (streams_from g.start.base_in g.start.base_out) (writes_from g.start.base_out) Quiet _ _ _ (within_writes g.start.base_in g.start.base_out)
    (touches-within g.D.Desk.tells (streams_from g.start.base_in g.start.base_out) (writes_from g.start.base_out) Quiet _ _ _ (within_writes g.start.base_in g.start.base_out) c.pieces.invariant.touches c.in-Ok-More.ensures.touches) late in
    touches-rest g.D.Desk.tells (streams_from g.start.base_in g.start.base_out) (writes_from g.start.base_out) _ _ _ (Ok c.in-Ok-take_rest.field-0) (within_writes g.start.base_in g.start.base_out)
    (touches-within g.D.Desk.tells (streams_from g.start.base_in g.start.base_out) (reads_from g.start.base_in) Read _ _ _ (within_reads g.start.base_in g.start.base_out) before c.in-ReadFault.ensures.touches)
    c.in-Ok-take_rest.ensures.touches

pub returns-in-Err-Failed-take_rest-clause-touches : goal.returns-in-Err-Failed-take_rest-clause-touches
returns-in-Err-Failed-take_rest-clause-touches g c =
    let waiting = rw c.in-Ok-More.field-0-is at c.in-Ok-More.ensures.paused in
    let shown = waiting.streams in
    let late = c.in-Ok.ensures.touches g.start.base_out g.start.names shown.so_far shown.told in
    let flushed = waiting_written g.S.Stage.kind g.D.Desk.tells g.start false (state (g.D.Desk.reading c.take_shown.new.desk) (g.D.Desk.writing c.take_shown.new.desk)) (state (g.D.Desk.reading c.flush_late.new.desk) (g.D.Desk.writing c.flush_late.new.desk)) Quiet c.take_shown.new.stage c.take_shown.new.outputs c.flush_late.new.outputs
    c.in-Ok-More.input c.in-Ok.ensures.told late waiting in
    let before = touches-within g.D.Desk.tells (streams_from g.start.base_in g.start.base_out) (writes_from g.start.base_out) Quiet _ _ _ (within_writes g.start.base_in g.start.base_out)
    (touches-within g.D.Desk.tells (streams_from g.start.base_in g.start.base_out) (writes_from g.start.base_out) Quiet _ _ _ (within_writes g.start.base_in g.start.base_out) c.pieces.invariant.touches c.in-Ok-More.ensures.touches) late in
    touches-rest g.D.Desk.tells (streams_from g.start.base_in g.start.base_out) (writes_from g.start.base_out) _ _ _ (Err Failed) (within_writes g.start.base_in g.start.base_out)
    (touches-within g.D.Desk.tells (streams_from g.start.base_in g.start.base_out) (reads_from g.start.base_in) Read _ _ _ (within_reads g.start.base_in g.start.base_out) before c.in-ReadFault.ensures.touches)
    (rw c.in-Err-Failed-take_rest.field-0-is at c.in-Err-Failed-take_rest.ensures.touches)

pub returns-in-Err-NoMemory-take_rest-clause-touches : goal.returns-in-Err-NoMemory-take_rest-clause-touches
returns-in-Err-NoMemory-take_rest-clause-touches g c =
    let waiting = rw c.in-Ok-More.field-0-is at c.in-Ok-More.ensures.paused in
    let shown = waiting.streams in
    let late = c.in-Ok.ensures.touches g.start.base_out g.start.names shown.so_far shown.told in
    let flushed = waiting_written g.S.Stage.kind g.D.Desk.tells g.start false (state (g.D.Desk.reading c.take_shown.new.desk) (g.D.Desk.writing c.take_shown.new.desk)) (state (g.D.Desk.reading c.flush_late.new.desk) (g.D.Desk.writing c.flush_late.new.desk)) Quiet c.take_shown.new.stage c.take_shown.new.outputs c.flush_late.new.outputs
    c.in-Ok-More.input c.in-Ok.ensures.told late waiting in
    let before = touches-within g.D.Desk.tells (streams_from g.start.base_in g.start.base_out) (writes_from g.start.base_out) Quiet _ _ _ (within_writes g.start.base_in g.start.base_out)
    (touches-within g.D.Desk.tells (streams_from g.start.base_in g.start.base_out) (writes_from g.start.base_out) Quiet _ _ _ (within_writes g.start.base_in g.start.base_out) c.pieces.invariant.touches c.in-Ok-More.ensures.touches) late in
    touches-rest g.D.Desk.tells (streams_from g.start.base_in g.start.base_out) (writes_from g.start.base_out) _ _ _ (Err NoMemory) (within_writes g.start.base_in g.start.base_out)
    (touches-within g.D.Desk.tells (streams_from g.start.base_in g.start.base_out) (reads_from g.start.base_in) Read _ _ _ (within_reads g.start.base_in g.start.base_out) before c.in-ReadFault.ensures.touches)
    (rw c.in-Err-NoMemory-take_rest.field-0-is at c.in-Err-NoMemory-take_rest.ensures.touches)

pub returns-in-Ok-End-clause-alone : goal.returns-in-Ok-End-clause-alone
returns-in-Ok-End-clause-alone g c = λ none. (c.in-Ok-End.ensures.unread ∙ c.pieces.invariant.alone none, no_read_ended)

pub returns-in-Err-Failed-clause-alone : goal.returns-in-Err-Failed-clause-alone
returns-in-Err-Failed-clause-alone g c = λ none. (c.in-Err-Failed.ensures.unread ∙ c.pieces.invariant.alone none, no_fault)

pub returns-in-Err-NoMemory-clause-alone : goal.returns-in-Err-NoMemory-clause-alone
returns-in-Err-NoMemory-clause-alone g c = λ none. (c.in-Err-NoMemory.ensures.unread ∙ c.pieces.invariant.alone none, no_unread)

pub returns-in-Err-Failed-flush_late-clause-alone : goal.returns-in-Err-Failed-flush_late-clause-alone
returns-in-Err-Failed-flush_late-clause-alone g c =
    let waiting = rw c.in-Ok-More.field-0-is at c.in-Ok-More.ensures.paused in
    λ none. none_waits c.in-Ok-More.input (g.S.Stage.kind.inputs g.start.begun) waiting.inside none

pub returns-in-Err-NoMemory-flush_late-clause-alone : goal.returns-in-Err-NoMemory-flush_late-clause-alone
returns-in-Err-NoMemory-flush_late-clause-alone g c =
    let waiting = rw c.in-Ok-More.field-0-is at c.in-Ok-More.ensures.paused in
    λ none. none_waits c.in-Ok-More.input (g.S.Stage.kind.inputs g.start.begun) waiting.inside none

pub returns-in-NoMemory-clause-alone : goal.returns-in-NoMemory-clause-alone
returns-in-NoMemory-clause-alone g c =
    let waiting = rw c.in-Ok-More.field-0-is at c.in-Ok-More.ensures.paused in
    λ none. none_waits c.in-Ok-More.input (g.S.Stage.kind.inputs g.start.begun) waiting.inside none

pub returns-in-Ok-take_rest-clause-alone : goal.returns-in-Ok-take_rest-clause-alone
returns-in-Ok-take_rest-clause-alone g c =
    let waiting = rw c.in-Ok-More.field-0-is at c.in-Ok-More.ensures.paused in
    λ none. none_waits c.in-Ok-More.input (g.S.Stage.kind.inputs g.start.begun) waiting.inside none

pub returns-in-Err-Failed-take_rest-clause-alone : goal.returns-in-Err-Failed-take_rest-clause-alone
returns-in-Err-Failed-take_rest-clause-alone g c =
    let waiting = rw c.in-Ok-More.field-0-is at c.in-Ok-More.ensures.paused in
    λ none. none_waits c.in-Ok-More.input (g.S.Stage.kind.inputs g.start.begun) waiting.inside none

pub returns-in-Err-NoMemory-take_rest-clause-alone : goal.returns-in-Err-NoMemory-take_rest-clause-alone
returns-in-Err-NoMemory-take_rest-clause-alone g c =
    let waiting = rw c.in-Ok-More.field-0-is at c.in-Ok-More.ensures.paused in
    λ none. none_waits c.in-Ok-More.input (g.S.Stage.kind.inputs g.start.begun) waiting.inside none

pub pieces-init : goal.pieces-init
pieces-init g c = record {
  streams = c.requires.1.1.0;
  width = c.requires.1.1.1.0;
  alone = λ none. refl;
  few = c.requires.1.1.1.1.0;
  room = c.requires.1.1.1.1.1.1;
  touches = touches-none g.D.Desk.tells (streams_from g.start.base_in g.start.base_out) (state (g.D.Desk.reading c.args.desk.now) (g.D.Desk.writing c.args.desk.now));
}
