use Rattle.std.proofs.Common.{◌≡◌, ◌+◌, length, filter}
use Rattle.ioam_ip.specs.Findings.{is_ioam}
use Rattle.ioam_ip.specs.OptionsLeft.{options_left}
use Rattle.ioam_report_options.proofs.counting.count_among.Given as goal

abbrev pub invariant-loop-option : goal.invariant-loop-option
invariant-loop-option l = record {
  can : (goal.iterator-loop-option).can_next l.option-iterator;
  finite : (goal.iterator-loop-option).is_finite l.option-iterator;
  lead : l.count + length (filter is_ioam (options_left l.option-iterator)) ≡ length (filter is_ioam (options_left l.initial.option-iterator));
}
