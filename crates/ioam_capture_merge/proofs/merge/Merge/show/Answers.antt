use Rattle.std.proofs.Common.{◌∙◌, arith}
use Rattle.ioam_capture_merge.proofs.merge.Merge.show.Goals as goal

pub show_one-requires-clause-merging : goal.show_one-requires-clause-merging
show_one-requires-clause-merging c =
    let (n, fed, ended, taken, merging) = c.requires in
    (n, fed, ended, taken, (c.captures-2.invariant.merging n fed ended taken merging).0)

pub returns-in-Ok-false-clause-shows : goal.returns-in-Ok-false-clause-shows
returns-in-Ok-false-clause-shows c = λ n fed ended taken merging.
    let (now, known) = c.captures-2.invariant.merging n fed ended taken merging in
    let shown = rw c.in-Ok-false.field-0-test at c.in-Ok-false.ensures.shown in
    shown n fed ended taken now known

pub captures-preserved : goal.captures-preserved
captures-preserved c = record {
  merging = λ n fed ended taken merging.
      let (now, known) = c.captures-2.invariant.merging n fed ended taken merging in
      let shown = rw c.in-Ok-true.field-0-test at c.in-Ok-true.ensures.shown in
      shown n fed ended taken now known;
  count = c.in-Ok-true.ensures.count ∙ c.captures-2.invariant.count;
  room = c.in-Ok-true.ensures.room ∙ c.captures-2.invariant.room;
}

pub returns-clause-shows : goal.returns-clause-shows
returns-clause-shows c = λ n fed ended taken merging.
    let (now, known) = c.captures-2.invariant.merging n fed ended taken merging in
    (now, λ k due below at. known k due (omega (arith, below, now.captures, c.captures-2.self.captures.ok.0, c.captures-2.invariant.count)) at)
