use Rattle.std.proofs.Common.{◌≡◌, ◌++◌, List, Option, map}
use Rattle.std.specs.List.{All}
use Rattle.ioam_delay_counts.specs.Courses.{Course}
use Rattle.ioam_delay_traces.specs.Shown.{Grows, option_course}
use Rattle.ioam_ip.specs.ChainOptions.{HeadFits}
use Rattle.ioam_ip.specs.HeadsLeft.{heads_left}
use Rattle.ioam_report_lines.specs.TracesText.{traces_from}
use Rattle.ioam_delay_traces.proofs.packets.count_packet.Given as goal

abbrev pub invariant-loop-head : goal.invariant-loop-head
invariant-loop-head l = record {
  can : (goal.iterator-loop-head).can_next l.head-iterator;
  finite : (goal.iterator-loop-head).is_finite l.head-iterator;
  done : List (Option Course);
  lead : done ++ map (option_course l.units l.limit) (traces_from l.packet (heads_left l.head-iterator))
      ≡ map (option_course l.units l.limit) (traces_from l.packet (heads_left l.initial.head-iterator));
  grown : Grows done l.initial.totals l.totals;
  fit : All (HeadFits l.packet) (heads_left l.head-iterator);
}
