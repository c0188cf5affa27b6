use Rattle.std.proofs.Common.{◌≡◌, length, take}
use Rattle.std.specs.List.{All}
use Rattle.ioam_ip.specs.OptionsLeft.{options_left}
use Rattle.ioam_report_options.specs.OptionsText.{ioam_among}
use Rattle.ioam_report_options.proofs.LinesLaws.{Appended}
use Rattle.ioam_report_options.proofs.OptionsLaws.{IsInside}
use Rattle.ioam_report_options.proofs.listing.put_among.Given as goal

abbrev pub invariant-loop-option : goal.invariant-loop-option
invariant-loop-option l = record {
  can : (goal.iterator-loop-option).can_next l.option-iterator;
  finite : (goal.iterator-loop-option).is_finite l.option-iterator;
  so_far : Appended (ioam_among l.start (options_left l.initial.option-iterator)) (ioam_among l.start (options_left l.option-iterator)) l.initial.out.items l.out.items;
  front : take (length l.initial.out.items) l.out.items ≡ l.initial.out.items;
  inside : All (IsInside (length l.head)) (options_left l.option-iterator);
}
