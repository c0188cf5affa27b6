use Rattle.std.proofs.Common.{◌≡◌, ◌++◌}
use Rattle.std.specs.List.{All}
use Rattle.ioam_data.specs.Elements.{IsElement}
use Rattle.ioam_trace.specs.Left.{left}
use Rattle.ioam_delay_traces.specs.Traces.{sights_of}
use Rattle.ioam_delay_traces.proofs.sights.read_sights.Given as goal

abbrev pub invariant-loop-element : goal.invariant-loop-element
invariant-loop-element l = record {
  can : (goal.iterator-loop-element).can_next l.element-iterator;
  finite : (goal.iterator-loop-element).is_finite l.element-iterator;
  lead : l.sights.items ++ sights_of l.units l.trace.head.kind l.trace.head.node_len (left l.element-iterator)
      ≡ sights_of l.units l.trace.head.kind l.trace.head.node_len (left l.initial.element-iterator);
  whole : All (IsElement l.trace.head.kind l.trace.head.node_len) (left l.element-iterator);
}
