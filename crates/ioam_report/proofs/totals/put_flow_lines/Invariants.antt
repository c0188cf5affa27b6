use Rattle.std.proofs.Common.{◌≡◌, ◌++◌, ◌≤◌, length, take}
use Rattle.std.specs.Slice.Iter.{iter_rest}
use Rattle.std.specs.Iterator.Adapters.{zip_first, zip_second}
use Rattle.ioam_report.specs.SumsText.{flow_lines}
use Rattle.ioam_report.proofs.totals.put_flow_lines.Given as goal

abbrev pub invariant-loop-flow : goal.invariant-loop-flow
invariant-loop-flow l = record {
  lead : l.out.items ++ flow_lines (iter_rest (zip_first l.flow-iterator)) (iter_rest (zip_second l.flow-iterator)) ≡ l.initial.out.items ++ flow_lines l.flows l.sums;
  front : take (length l.initial.out.items) l.out.items ≡ l.initial.out.items;
  more : length l.initial.out.items ≤ length l.out.items;
}
