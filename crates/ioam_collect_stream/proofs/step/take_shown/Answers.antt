use Rattle.std.proofs.Common.{[], ◌∷◌, ◌++◌, ◌∙◌, refl, arith}
use Rattle.ioam_collect_stream.proofs.GatheringLaws.{shows_step, step_fewer}
use Rattle.ioam_collect_stream.proofs.step.take_shown.Goals as goal

pub records-init : goal.records-init
records-init c = record { gathers = λ octets records g. (records, g); fewer = omega arith; fed = refl; limit = refl }

pub records-preserved : goal.records-preserved
records-preserved c =
    let steps = rw c.in-None.is at c.in_ok-step.ensures.stepped in
    record {
      gathers = λ octets records g.
          let now = c.records.invariant.gathers octets records g in
          let more = steps.1 octets now.0 now.1 in
          (now.0 ++ more.0 ∷ [], more.1);
      fewer = omega (arith, c.records.invariant.fewer, steps.0);
      fed = c.in_ok-step.ensures.fed ∙ c.records.invariant.fed;
      limit = c.in_ok-step.ensures.limit ∙ c.records.invariant.limit;
    }

pub records-smaller : goal.records-smaller
records-smaller c = let steps = rw c.in-None.is at c.in_ok-step.ensures.stepped in omega (arith, steps.0)

pub returns-in-Some-clause-shown : goal.returns-in-Some-clause-shown
returns-in-Some-clause-shown c = shows_step _ _ _ _ _ _ c.in-Some.pause c.records.invariant.gathers (rw c.in-Some.is at c.in_ok-step.ensures.stepped)

pub returns-in-Some-clause-fewer : goal.returns-in-Some-clause-fewer
returns-in-Some-clause-fewer c = omega (arith, c.records.invariant.fewer, step_fewer _ _ _ _ c.in-Some.pause (rw c.in-Some.is at c.in_ok-step.ensures.stepped))
