use Rattle.std.proofs.Common.{◌≡◌, ◌+◌, length}
use Rattle.std.specs.List.{All}
use Rattle.ioam_ip.specs.ChainOptions.{HeadFits}
use Rattle.ioam_ip.specs.HeadsLeft.{heads_left}
use Rattle.ioam_report_options.specs.OptionsText.{ioam_from}
use Rattle.ioam_report_options.proofs.counting.count_options.Given as goal

abbrev pub invariant-loop-head : goal.invariant-loop-head
invariant-loop-head l = record {
  can : (goal.iterator-loop-head).can_next l.head-iterator;
  finite : (goal.iterator-loop-head).is_finite l.head-iterator;
  lead : l.count + length (ioam_from l.packet (heads_left l.head-iterator)) ≡ length (ioam_from l.packet (heads_left l.initial.head-iterator));
  fit : All (HeadFits l.packet) (heads_left l.head-iterator);
}
