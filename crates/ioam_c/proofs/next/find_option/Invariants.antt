use Rattle.std.proofs.Common.{◌≡◌}
use Rattle.std.specs.List.{All, find}
use Rattle.ioam_ip.specs.ChainOptions.{HeadFits}
use Rattle.ioam_ip.specs.HeadsLeft.{heads_left}
use Rattle.ioam_c.specs.Next.{at_least, ioam_from}
use Rattle.ioam_c.proofs.next.find_option.Given as goal

abbrev pub invariant-loop-head : goal.invariant-loop-head
invariant-loop-head l = record {
  can : (goal.iterator-loop-head).can_next l.head-iterator;
  finite : (goal.iterator-loop-head).is_finite l.head-iterator;
  same : find (at_least l.from) (ioam_from l.packet (heads_left l.head-iterator)) ≡ find (at_least l.from) (ioam_from l.packet (heads_left l.initial.head-iterator));
  fit : All (HeadFits l.packet) (heads_left l.head-iterator);
}
