use Rattle.std.proofs.Common.{◌∙◌, refl, arith}
use Rattle.ioam_run_traffic.proofs.progress.Progress.take_shown.Goals as goal

pub records-init : goal.records-init
records-init g c = record { taking = c.requires.taking; goes = λ opens seen before so_far taking. (before, taking); left = omega arith; room = refl }

pub records-preserved : goal.records-preserved
records-preserved g c =
    let next = rw c.in-Ok-None.field-0-is at c.in-Ok-None.ensures.next in
    let left = rw c.in-Ok-None.field-0-is at c.in-Ok-None.ensures.left in
    let (opens, seen, before, so_far, taking) = c.records.invariant.taking in
    let (now, more) = next opens seen before so_far taking in
    record {
      taking = (opens, seen, now, so_far, more);
      goes = λ opens seen before so_far taking. let (now, more) = c.records.invariant.goes opens seen before so_far taking in next opens seen now so_far more;
      left = omega (arith, c.records.invariant.left, left);
      room = c.in-Ok-None.ensures.room ∙ c.records.invariant.room;
    }

pub records-smaller : goal.records-smaller
records-smaller g c = let left = rw c.in-Ok-None.field-0-is at c.in-Ok-None.ensures.left in omega (arith, left)

pub returns-in-Ok-Some-clause-paused : goal.returns-in-Ok-Some-clause-paused
returns-in-Ok-Some-clause-paused g c = λ opens seen before so_far taking.
    let next = rw c.in-Ok-Some.field-0-is at c.in-Ok-Some.ensures.next in
    let (now, more) = c.records.invariant.goes opens seen before so_far taking in
    next opens seen now so_far more
