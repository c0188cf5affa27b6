use Rattle.std.proofs.Common.{◌≡◌, ◌+◌, length}
use Rattle.std.specs.List.{All}
use Rattle.ioam_ip.specs.ChainOptions.{HeadFits}
use Rattle.ioam_ip.specs.HeadsLeft.{heads_left}
use Rattle.ioam_report_lines.specs.TracesText.{traces_from}
use Rattle.ioam_report_lines.proofs.traces.count_traces.Given as goal

abbrev pub invariant-loop-head : goal.invariant-loop-head
invariant-loop-head l = record {
  can : (goal.iterator-loop-head).can_next l.head-iterator;
  finite : (goal.iterator-loop-head).is_finite l.head-iterator;
  lead : l.count + length (traces_from l.packet (heads_left l.head-iterator)) ≡ length (traces_from l.packet (heads_left l.initial.head-iterator));
  fit : All (HeadFits l.packet) (heads_left l.head-iterator);
}
