use Rattle.std.proofs.Common.{◌≡◌}
use Rattle.std.specs.List.{All, find}
use Rattle.ioam_ip.specs.HeadsLeft.{heads_left}
use Rattle.ioam_ip.specs.ChainOptions.{HeadFits}
use Rattle.ioam_ip.specs.ChainOptions.{is_other}
use Rattle.ioam_tunnel.proofs.inside.first_other.Given as goal

abbrev pub invariant-loop-head : goal.invariant-loop-head
invariant-loop-head l =
    (goal.iterator-loop-head).can_next l.head-iterator ×
    (goal.iterator-loop-head).is_finite l.head-iterator ×
    (find is_other (heads_left l.head-iterator) ≡ find is_other (heads_left l.initial.head-iterator)) ×
    All (HeadFits l.packet) (heads_left l.head-iterator)
