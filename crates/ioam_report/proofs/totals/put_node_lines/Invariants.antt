use Rattle.std.proofs.Common.{◌≡◌, ◌++◌, ◌≤◌, length, take}
use Rattle.std.specs.Slice.Iter.{iter_rest}
use Rattle.std.specs.Iterator.Adapters.{zip_first, zip_second}
use Rattle.ioam_report.specs.SumsText.{node_lines}
use Rattle.ioam_report.proofs.totals.put_node_lines.Given as goal

abbrev pub invariant-loop-node : goal.invariant-loop-node
invariant-loop-node l = record {
  lead : l.out.items ++ node_lines (iter_rest (zip_first l.node-iterator)) (iter_rest (zip_second l.node-iterator)) ≡ l.initial.out.items ++ node_lines l.nodes l.sums;
  front : take (length l.initial.out.items) l.out.items ≡ l.initial.out.items;
  more : length l.initial.out.items ≤ length l.out.items;
}
