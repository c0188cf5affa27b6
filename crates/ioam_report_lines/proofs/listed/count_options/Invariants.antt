use Rattle.std.proofs.Common.{◌≡◌, ◌+◌, length, filter}
use Rattle.ioam_ip.specs.OptionsLeft.{options_left}
use Rattle.ioam_report_lines.specs.TracesText.{is_trace}
use Rattle.ioam_report_lines.proofs.listed.count_options.Given as goal

abbrev pub invariant-loop-option : goal.invariant-loop-option
invariant-loop-option l = record {
  can : (goal.iterator-loop-option).can_next l.option-iterator;
  finite : (goal.iterator-loop-option).is_finite l.option-iterator;
  lead : l.count + length (filter is_trace (options_left l.option-iterator)) ≡ length (filter is_trace (options_left l.initial.option-iterator));
}
