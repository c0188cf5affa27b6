use Rattle.std.proofs.Common.{◌≡◌, ◌++◌, ◌-◌, ◌≤◌, length, take}
use Rattle.ioam_ip.specs.OptionsLeft.{options_from}
use Rattle.ioam_ip.specs.Rewriting.{options_in}
use Rattle.ioam_report_lines.specs.HopText.{changing_lines}
use Rattle.ioam_report_lines.proofs.hop_traces.put_options.Given as goal

abbrev pub invariant-options : goal.invariant-options
invariant-options l = record {
  lead : l.out.items ++ changing_lines (options_from (length l.head) l.head l.at) ≡ l.initial.out.items ++ changing_lines (options_in l.head);
  front : take (length l.initial.out.items) l.out.items ≡ l.initial.out.items;
  more : length l.initial.out.items ≤ length l.out.items;
  below : l.at ≤ 4096;
}

abbrev pub decreases-options : goal.decreases-options
decreases-options l = length l.head - l.at
