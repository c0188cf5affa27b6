use Rattle.std.proofs.Common.{◌≡◌, drop, map}
use Rattle.std.specs.List.{All}
use Rattle.ioam_tunnel.specs.Enclosed.{room_of}
use Rattle.ioam_tunnel.specs.Outer.{with_parts}
use Rattle.ioam_tunnel.specs.Wire.{IsRoom, trace_parts, no_elements}
use Rattle.ioam_tunnel.proofs.laying.add_traces.Given as goal

abbrev pub invariant-loop-trace : goal.invariant-loop-trace
invariant-loop-trace l = record {
  laid : with_parts l.outer (trace_parts (map room_of (drop l.trace-index l.traces)) no_elements)
      ≡ with_parts l.initial.outer (trace_parts (map room_of l.traces) no_elements);
  sound : All IsRoom (map room_of (drop l.trace-index l.traces)) → All IsRoom (map room_of l.traces);
}
