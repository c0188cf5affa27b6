use Rattle.std.proofs.Common.{◌≡◌, ◌++◌, ◌≤◌, length, take}
use Rattle.std.specs.List.{All, flat_map}
use Rattle.ioam_data.specs.Elements.{IsElement}
use Rattle.ioam_trace.specs.Left.{left}
use Rattle.ioam_report_lines.specs.TraceText.{element_line}
use Rattle.ioam_report_options.proofs.traces.put_newer_lines.Given as goal

abbrev pub invariant-loop-element : goal.invariant-loop-element
invariant-loop-element l = record {
  can : (goal.iterator-loop-element).can_next l.element-iterator;
  finite : (goal.iterator-loop-element).is_finite l.element-iterator;
  lead : l.out.items ++ flat_map (element_line l.trace.head.kind l.trace.head.node_len) (left l.element-iterator)
      ≡ l.initial.out.items ++ flat_map (element_line l.trace.head.kind l.trace.head.node_len) (left l.initial.element-iterator);
  front : take (length l.initial.out.items) l.out.items ≡ l.initial.out.items;
  more : length l.initial.out.items ≤ length l.out.items;
  whole : All (IsElement l.trace.head.kind l.trace.head.node_len) (left l.element-iterator);
}
