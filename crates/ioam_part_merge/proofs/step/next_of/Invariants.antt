use Rattle.std.proofs.Common.{◌≤◌, List}
use Rattle.ioam_collect.specs.Entry.{Entry}
use Rattle.ioam_collect.specs.declared.key.Key.{Key}
use Rattle.ioam_part_merge.specs.Walk.{Comes, left, sides}
use Rattle.ioam_part_merge.proofs.step.next_of.Given as goal

-- what came of the two at first still comes of them
abbrev pub invariant-steps : goal.invariant-steps
invariant-steps l = record {
  comes : (ps : List (Key × Entry)) → Comes (sides l.initial.first l.initial.second) ps → Comes (sides l.first l.second) ps;
  left : left (sides l.first l.second) ≤ left (sides l.initial.first l.initial.second);
}

abbrev pub decreases-steps : goal.decreases-steps
decreases-steps l = left (sides l.first l.second)
