use Rattle.std.proofs.Common.{◌≡◌, ◌-◌, length}
use Rattle.std.specs.List.{find}
use Rattle.ioam_ip.specs.OptionsLeft.{options_from}
use Rattle.ioam_ip.specs.Rewriting.{options_in}
use Rattle.ioam_c.specs.Next.{at_least, ioam_among}
use Rattle.ioam_c.proofs.next.find_among.Given as goal

abbrev pub invariant-options : goal.invariant-options
invariant-options l = record {
  same : find (at_least l.from) (ioam_among l.start (options_from (length l.head) l.head l.at)) ≡ find (at_least l.from) (ioam_among l.start (options_in l.head));
}

abbrev pub decreases-options : goal.decreases-options
decreases-options l = length l.head - l.at
