use Rattle.std.proofs.Common.{◌++◌, ◌∷◌, [], ◌∙◌, subst}
use Rattle.ioam_part.specs.Reading.{Turns}
use Rattle.ioam_part.proofs.taking.take_shown.Goals as goal

pub records-preserved : goal.records-preserved
records-preserved c = record {
  takes = λ limit body xs none took.
      let now = c.records.invariant.takes limit body xs none took in
      let turned = subst (λ b. Turns c.args.count limit body now.0 b c.take_next.new.reader c.take_next.new.progress) c.if-not-branch.false
      (c.in_ok-take_next.ensures.turns limit body now.0 now.1 now.2) in
      (now.0 ++ turned.1.0 ∷ [], turned.0, turned.1.1);
  held = c.take_next.ensures.held ∙ c.records.invariant.held;
}

pub returns-then-not-branch-clause-stops : goal.returns-then-not-branch-clause-stops
returns-then-not-branch-clause-stops c = λ limit body xs none took.
    let now = c.records.invariant.takes limit body xs none took in (
      now.0,
      subst (λ b. Turns c.args.count limit body now.0 b c.take_next.new.reader c.take_next.new.progress) c.if-not-branch.true
          (c.in_ok-take_next.ensures.turns limit body now.0 now.1 now.2),
    )

pub returns-then-not-branch-clause-held : goal.returns-then-not-branch-clause-held
returns-then-not-branch-clause-held c = c.take_next.ensures.held ∙ c.records.invariant.held
