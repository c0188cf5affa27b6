use Rattle.std.proofs.Common.{◌≡◌}
use Rattle.std.specs.List.{All}
use Rattle.ioam_ip.specs.HeadsLeft.{heads_left}
use Rattle.ioam_ip.specs.ChainOptions.{outer_targets, HeadFits}
use Rattle.ioam_ip.proofs.finds.target_header.Given as goal

abbrev pub invariant-loop-head : goal.invariant-loop-head
invariant-loop-head l =
    (goal.iterator-loop-head).can_next l.head-iterator ×
    (goal.iterator-loop-head).is_finite l.head-iterator ×
    (outer_targets (heads_left l.head-iterator) ≡ outer_targets (heads_left l.initial.head-iterator)) ×
    All (HeadFits l.packet) (heads_left l.head-iterator)
