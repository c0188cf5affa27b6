use Rattle.std.proofs.Common.{◌≡◌, ◌++◌, ◌≤◌, length, take}
use Rattle.std.specs.List.{All, flat_map}
use Rattle.ioam_ip.specs.ChainOptions.{HeadFits}
use Rattle.ioam_ip.specs.HeadsLeft.{heads_left}
use Rattle.ioam_report_lines.specs.TracesText.{option_lines, traces_from}
use Rattle.ioam_report_lines.proofs.traces.put_listed.Given as goal

abbrev pub invariant-loop-head : goal.invariant-loop-head
invariant-loop-head l = record {
  can : (goal.iterator-loop-head).can_next l.head-iterator;
  finite : (goal.iterator-loop-head).is_finite l.head-iterator;
  lead : l.out.items ++ flat_map option_lines (traces_from l.packet (heads_left l.head-iterator))
      ≡ l.initial.out.items ++ flat_map option_lines (traces_from l.packet (heads_left l.initial.head-iterator));
  front : take (length l.initial.out.items) l.out.items ≡ l.initial.out.items;
  more : length l.initial.out.items ≤ length l.out.items;
  fit : All (HeadFits l.packet) (heads_left l.head-iterator);
}
