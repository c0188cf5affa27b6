use Rattle.std.proofs.Common.{◌≡◌, ◌++◌, ◌≤◌, length, take, filter}
use Rattle.std.specs.List.{flat_map}
use Rattle.ioam_ip.specs.OptionsLeft.{options_left}
use Rattle.ioam_report_lines.specs.TracesText.{is_trace, option_lines}
use Rattle.ioam_report_lines.proofs.listed.put_options.Given as goal

abbrev pub invariant-loop-option : goal.invariant-loop-option
invariant-loop-option l = record {
  can : (goal.iterator-loop-option).can_next l.option-iterator;
  finite : (goal.iterator-loop-option).is_finite l.option-iterator;
  lead : l.out.items ++ flat_map option_lines (filter is_trace (options_left l.option-iterator))
      ≡ l.initial.out.items ++ flat_map option_lines (filter is_trace (options_left l.initial.option-iterator));
  front : take (length l.initial.out.items) l.out.items ≡ l.initial.out.items;
  more : length l.initial.out.items ≤ length l.out.items;
}
