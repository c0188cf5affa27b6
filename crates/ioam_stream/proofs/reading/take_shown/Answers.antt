use Rattle.std.proofs.Common.{List, subst, ◌∙◌, arith, sym, Err, refl}
use Rattle.ioam_desk.specs.Touches.{state, writes_from, Quiet, failing_out}
use Rattle.ioam_desk.proofs.TouchesLaws.{touches-none, touches-on}
use Rattle.ioam_desk_outputs.specs.Told.{GathersFew}
use Rattle.ioam_desk_outputs.specs.declared.output.Output.{Output as Sink}
use Rattle.ioam_desk_outputs.proofs.ToldLaws.{AreTold-open}
use Rattle.ioam_stream.proofs.StreamsLaws.{streams_taken, streams_written, streams_waits, streams_ends, streams_left, streams_sticks}
use Rattle.ioam_stream.proofs.reading.take_shown.Goals as goal

pub step-requires : goal.step-requires
step-requires g c =
    let streams = c.items.invariant.streams in
    record {
      width = c.items.invariant.width ∙ sym (g.met.S.Stage.lawful.width g.going.start.begun streams.seen streams.so_far c.items.stage streams.stands);
      few = c.items.invariant.few;
      stands = record { begun = g.going.start.begun; seen = streams.seen; so_far = streams.so_far; stands = streams.stands };
    }

pub returns-in-Ok-More-clause-paused : goal.returns-in-Ok-More-clause-paused
returns-in-Ok-More-clause-paused g c = streams_waits g.S.Stage.kind g.D.Desk.tells g.going.start g.going.cut (state (g.D.Desk.reading c.items.desk) (g.D.Desk.writing c.items.desk)) c.items.stage c.step.new.self c.items.outputs c.step.new.outputs c.in-Ok-More.input
    (rw c.in-Ok-More.field-0-is at c.in-Ok-More.ensures.steps) c.items.invariant.streams

pub returns-in-Ok-More-clause-room : goal.returns-in-Ok-More-clause-room
returns-in-Ok-More-clause-room g c = let waits = rw c.in-Ok-More.field-0-is at c.in-Ok-More.ensures.steps in waits.room ∙ c.items.invariant.room

pub returns-in-Ok-More-clause-few : goal.returns-in-Ok-More-clause-few
returns-in-Ok-More-clause-few g c = let waits = rw c.in-Ok-More.field-0-is at c.in-Ok-More.ensures.steps in subst (λ (outputs : List Sink). GathersFew outputs) (sym waits.same) c.items.invariant.few

pub returns-in-Ok-End-clause-few : goal.returns-in-Ok-End-clause-few
returns-in-Ok-End-clause-few g c = let ends = rw c.in-Ok-End.field-0-is at c.in-Ok-End.ensures.steps in subst (λ (outputs : List Sink). GathersFew outputs) (sym ends.same) c.items.invariant.few

pub returns-in-Ok-End-clause-paused : goal.returns-in-Ok-End-clause-paused
returns-in-Ok-End-clause-paused g c = streams_ends g.S.Stage.kind g.D.Desk.tells g.going.start g.met.S.Stage.lawful g.going.cut (state (g.D.Desk.reading c.items.desk) (g.D.Desk.writing c.items.desk)) c.items.stage c.step.new.self c.items.outputs c.step.new.outputs
    (rw c.in-Ok-End.field-0-is at c.in-Ok-End.ensures.steps) c.items.invariant.streams

pub returns-in-Ok-End-clause-room : goal.returns-in-Ok-End-clause-room
returns-in-Ok-End-clause-room g c = let ends = rw c.in-Ok-End.field-0-is at c.in-Ok-End.ensures.steps in ends.room ∙ c.items.invariant.room

pub returns-in-Err-clause-sticks : goal.returns-in-Err-clause-sticks
returns-in-Err-clause-sticks g c = streams_sticks g.S.Stage.kind g.D.Desk.tells g.going.start g.going.cut (state (g.D.Desk.reading c.items.desk) (g.D.Desk.writing c.items.desk)) c.items.stage c.items.outputs c.items.invariant.width c.in-Err.ensures.leads c.items.invariant.streams

pub flush_full-requires : goal.flush_full-requires
flush_full-requires g c =
    let takes = rw c.in-Ok-Taken.field-0-is at c.in-Ok-Taken.ensures.steps in
    let streams = streams_taken g.S.Stage.kind g.D.Desk.tells g.going.start g.going.cut (state (g.D.Desk.reading c.items.desk) (g.D.Desk.writing c.items.desk)) c.items.stage c.step.new.self c.items.outputs c.step.new.outputs takes c.items.invariant.streams in
    AreTold-open g.D.Desk.tells (g.D.Desk.writing c.items.desk) g.going.start.base_out g.going.start.names c.step.new.outputs streams.so_far streams.told

pub items-preserved : goal.items-preserved
items-preserved g c =
    let takes = rw c.in-Ok-Taken.field-0-is at c.in-Ok-Taken.ensures.steps in
    let streams = streams_taken g.S.Stage.kind g.D.Desk.tells g.going.start g.going.cut (state (g.D.Desk.reading c.items.desk) (g.D.Desk.writing c.items.desk)) c.items.stage c.step.new.self c.items.outputs c.step.new.outputs takes c.items.invariant.streams in
    record {
      streams = streams_written g.S.Stage.kind g.D.Desk.tells g.going.start g.going.cut (state (g.D.Desk.reading c.items.desk) (g.D.Desk.writing c.items.desk)) (state (g.D.Desk.reading c.flush_full.new.desk) (g.D.Desk.writing c.flush_full.new.desk)) Quiet c.step.new.self c.step.new.outputs c.flush_full.new.outputs
          c.in-Ok.ensures.told (c.in-Ok.ensures.touches g.going.start.base_out g.going.start.names streams.so_far streams.told) streams;
      width = omega (arith, c.items.invariant.width, c.step.auto.outputs, c.flush_full.auto.outputs);
      few = c.in-Ok.ensures.few;
      room = takes.room ∙ c.items.invariant.room;
      unread = c.in-Ok.ensures.inputs ∙ c.items.invariant.unread;
      touches = touches-on g.D.Desk.tells (writes_from g.going.start.base_out) Quiet (state (g.D.Desk.reading c.args.desk.now) (g.D.Desk.writing c.args.desk.now)) (state (g.D.Desk.reading c.items.desk) (g.D.Desk.writing c.items.desk)) (state (g.D.Desk.reading c.flush_full.new.desk) (g.D.Desk.writing c.flush_full.new.desk))
          c.items.invariant.touches (c.in-Ok.ensures.touches g.going.start.base_out g.going.start.names streams.so_far streams.told);
    }

pub items-smaller : goal.items-smaller
items-smaller g c = let takes = rw c.in-Ok-Taken.field-0-is at c.in-Ok-Taken.ensures.steps in omega (arith, takes.held)

pub items-init : goal.items-init
items-init g c = record {
  streams = c.requires.1.1.0;
  width = c.requires.1.1.1.0;
  few = c.requires.1.1.1.1;
  room = refl;
  unread = refl;
  touches = touches-none g.D.Desk.tells (writes_from g.going.start.base_out) (state (g.D.Desk.reading c.args.desk.now) (g.D.Desk.writing c.args.desk.now));
}

pub returns-in-Err-flush_full-clause-sticks : goal.returns-in-Err-flush_full-clause-sticks
returns-in-Err-flush_full-clause-sticks g c =
    let takes = rw c.in-Ok-Taken.field-0-is at c.in-Ok-Taken.ensures.steps in
    let streams = streams_taken g.S.Stage.kind g.D.Desk.tells g.going.start g.going.cut (state (g.D.Desk.reading c.items.desk) (g.D.Desk.writing c.items.desk)) c.items.stage c.step.new.self c.items.outputs c.step.new.outputs takes c.items.invariant.streams in
    streams_left g.S.Stage.kind g.D.Desk.tells g.going.start g.met.S.Stage.lawful g.going.cut (state (g.D.Desk.reading c.flush_full.new.desk) (g.D.Desk.writing c.flush_full.new.desk)) c.step.new.self 65536 c.step.new.outputs c.flush_full.new.outputs
    (omega (arith, c.items.invariant.width, c.step.auto.outputs, c.flush_full.auto.outputs)) c.in-Err-flush_full.ensures.left (omega (arith, c.flush_full.auto.outputs))
    (streams_written g.S.Stage.kind g.D.Desk.tells g.going.start g.going.cut (state (g.D.Desk.reading c.items.desk) (g.D.Desk.writing c.items.desk)) (state (g.D.Desk.reading c.flush_full.new.desk) (g.D.Desk.writing c.flush_full.new.desk)) (failing_out {A = Unit {0}} (Err c.in-Err-flush_full.fault)) c.step.new.self c.step.new.outputs c.flush_full.new.outputs
    c.in-Err-flush_full.ensures.told (c.in-Err-flush_full.ensures.touches g.going.start.base_out g.going.start.names streams.so_far streams.told) streams)

pub returns-in-Err-flush_full-clause-touches : goal.returns-in-Err-flush_full-clause-touches
returns-in-Err-flush_full-clause-touches g c =
    let takes = rw c.in-Ok-Taken.field-0-is at c.in-Ok-Taken.ensures.steps in
    let streams = streams_taken g.S.Stage.kind g.D.Desk.tells g.going.start g.going.cut (state (g.D.Desk.reading c.items.desk) (g.D.Desk.writing c.items.desk)) c.items.stage c.step.new.self c.items.outputs c.step.new.outputs takes c.items.invariant.streams in
    touches-on g.D.Desk.tells (writes_from g.going.start.base_out) (failing_out {A = Unit {0}} (Err c.in-Err-flush_full.fault)) (state (g.D.Desk.reading c.args.desk.now) (g.D.Desk.writing c.args.desk.now)) (state (g.D.Desk.reading c.items.desk) (g.D.Desk.writing c.items.desk)) (state (g.D.Desk.reading c.flush_full.new.desk) (g.D.Desk.writing c.flush_full.new.desk))
    c.items.invariant.touches (c.in-Err-flush_full.ensures.touches g.going.start.base_out g.going.start.names streams.so_far streams.told)
