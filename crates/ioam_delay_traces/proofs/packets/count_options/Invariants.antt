use Rattle.std.proofs.Common.{◌≡◌, ◌++◌, List, Option, filter, map}
use Rattle.ioam_delay_counts.specs.Courses.{Course}
use Rattle.ioam_delay_traces.specs.Shown.{Grows, option_course}
use Rattle.ioam_ip.specs.OptionsLeft.{options_left}
use Rattle.ioam_report_lines.specs.TracesText.{is_trace}
use Rattle.ioam_delay_traces.proofs.packets.count_options.Given as goal

abbrev pub invariant-loop-option : goal.invariant-loop-option
invariant-loop-option l = record {
  can : (goal.iterator-loop-option).can_next l.option-iterator;
  finite : (goal.iterator-loop-option).is_finite l.option-iterator;
  done : List (Option Course);
  lead : done ++ map (option_course l.units l.limit) (filter is_trace (options_left l.option-iterator))
      ≡ map (option_course l.units l.limit) (filter is_trace (options_left l.initial.option-iterator));
  grown : Grows done l.initial.totals l.totals;
}
