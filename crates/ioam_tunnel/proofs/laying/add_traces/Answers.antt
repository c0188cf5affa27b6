use Rattle.std.proofs.Common.{map}
use Rattle.ioam_tunnel.specs.Enclosed.{room_of}
use Rattle.ioam_tunnel.specs.Outer.{with_parts}
use Rattle.ioam_tunnel.specs.Wire.{trace_parts, no_elements}
use Rattle.ioam_tunnel.proofs.LayLaws.{traces-more, traces-all, trace-room, rooms-more, rooms-all}
use Rattle.ioam_tunnel.proofs.laying.add_traces.Goals as goal

pub add_trace-requires-clause-room : goal.add_trace-requires-clause-room
add_trace-requires-clause-room c =
    trace-room c.args.traces.now c.loop-trace.trace-index c.trace-item.result c.loop-trace-test.true c.trace-item.is
    c.loop-trace.outer (with_parts c.args.outer.now (trace_parts (map room_of c.args.traces.now) no_elements)) c.loop-trace.invariant.laid c.requires.room

pub loop-trace-preserved : goal.loop-trace-preserved
loop-trace-preserved c = record {
  laid = traces-more c.args.traces.now c.loop-trace.trace-index c.trace-item.result c.loop-trace-test.true c.trace-item.is
      c.loop-trace.outer c.add_trace.new.outer _ c.add_trace.ensures.value c.loop-trace.invariant.laid;
  sound = rooms-more c.args.traces.now c.loop-trace.trace-index c.trace-item.result c.loop-trace-test.true c.trace-item.is
      c.add_trace.ensures.sound c.loop-trace.invariant.sound;
}

pub returns-clause-value : goal.returns-clause-value
returns-clause-value c = traces-all c.args.traces.now c.loop-trace.trace-index c.loop-trace.outer _ c.loop-trace-test.false c.loop-trace.invariant.laid

pub returns-clause-sound : goal.returns-clause-sound
returns-clause-sound c = rooms-all c.args.traces.now c.loop-trace.trace-index c.loop-trace-test.false c.loop-trace.invariant.sound
