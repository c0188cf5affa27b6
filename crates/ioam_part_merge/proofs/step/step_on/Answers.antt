use Rattle.std.proofs.Common.{◌<◌, ◌∙◌, refl, subst, sym}
use Rattle.ioam_part_merge.specs.Walk.{Goes, StepsSo, Walking, left, left_of, sides}
use Rattle.ioam_part_merge.specs.declared.turn.Turn.TheVariants as turn
use Rattle.ioam_part_merge.proofs.TurnLaws.{shows_are, turns_are}
use Rattle.ioam_part_merge.proofs.WalkLaws.{fewer_both, fewer_one, fewer_other, step_both, step_done, step_first, step_second, step_without_first, step_without_second, taken_is, there}
use Rattle.ioam_part_merge.proofs.step.step_on.Goals as goal

pub returns-in-Done : goal.returns-in-Done
returns-in-Done c =
    let old : Walking = sides c.args.first.now c.args.second.now in
    record {
      steps = λ ps comes. step_done old ps comes (turns_are c.args.first.now c.args.second.now comes.firsts comes.seconds turn.Done c.in-Done.ensures comes.first comes.second);
      fewer = tt;
    }

pub returns-in-First : goal.returns-in-First
returns-in-First c =
    let old : Walking = sides c.args.first.now c.args.second.now in
    let new : Walking = sides c.take.new.self c.args.second.now in
    let next = there c.args.first.now (shows_are c.args.first.now c.args.second.now turn.First c.in-First.ensures) in
    let is = taken_is c.take.result next.0 c.taken.result c.taken.ensures (c.take.ensures.next ∙ next.1) in
    record {
      steps = λ ps comes. subst (λ s. StepsSo ps s new) (sym is) (step_first old new ps comes next.0 next.1 (turns_are c.args.first.now c.args.second.now comes.firsts comes.seconds turn.First c.in-First.ensures comes.first comes.second)
          c.take.ensures.is refl);
      fewer = subst (λ s. Goes s (left new < left old)) (sym is) (fewer_one c.args.first.now c.take.new.self next.0 next.1 c.take.ensures.fewer (left_of c.args.second.now));
    }

pub returns-in-Second : goal.returns-in-Second
returns-in-Second c =
    let old : Walking = sides c.args.first.now c.args.second.now in
    let new : Walking = sides c.args.first.now c.take-in-Second.new.self in
    let next = there c.args.second.now (shows_are c.args.first.now c.args.second.now turn.Second c.in-Second.ensures) in
    let is = taken_is c.take-in-Second.result next.0 c.taken-in-Second.result c.taken-in-Second.ensures (c.take-in-Second.ensures.next ∙ next.1) in
    record {
      steps = λ ps comes. subst (λ s. StepsSo ps s new) (sym is) (step_second old new ps comes next.0 next.1 (turns_are c.args.first.now c.args.second.now comes.firsts comes.seconds turn.Second c.in-Second.ensures comes.first comes.second)
          c.take-in-Second.ensures.is refl);
      fewer = subst (λ s. Goes s (left new < left old)) (sym is) (fewer_other c.args.second.now c.take-in-Second.new.self next.0 next.1 c.take-in-Second.ensures.fewer (left_of c.args.first.now));
    }

pub returns-in-Both : goal.returns-in-Both
returns-in-Both c =
    let old : Walking = sides c.args.first.now c.args.second.now in
    let new : Walking = sides c.take-in-Both-2.new.self c.take-in-Both.new.self in
    let shown = shows_are c.args.first.now c.args.second.now turn.Both c.in-Both.ensures in
    let next = there c.args.first.now shown.0 in
    let next' = there c.args.second.now shown.1 in
    let is = taken_is c.take-in-Both-2.result next.0 c.taken-in-Both.result c.taken-in-Both.ensures (c.take-in-Both-2.ensures.next ∙ next.1) in
    record {
      steps = λ ps comes. subst (λ s. StepsSo ps s new) (sym is) (step_both old new ps comes next.0 next'.0 next.1 next'.1
          (turns_are c.args.first.now c.args.second.now comes.firsts comes.seconds turn.Both c.in-Both.ensures comes.first comes.second)
          c.take-in-Both-2.ensures.is c.take-in-Both.ensures.is);
      fewer = subst (λ s. Goes s (left new < left old)) (sym is) (fewer_both c.args.first.now c.take-in-Both-2.new.self next.0 next.1 c.take-in-Both-2.ensures.fewer
          c.args.second.now c.take-in-Both.new.self c.take-in-Both.ensures.fewer);
    }

pub returns-in-WithoutFirst : goal.returns-in-WithoutFirst
returns-in-WithoutFirst c =
    let old : Walking = sides c.args.first.now c.args.second.now in
    let new : Walking = sides c.take-in-WithoutFirst.new.self c.args.second.now in
    let next = there c.args.first.now (shows_are c.args.first.now c.args.second.now turn.WithoutFirst c.in-WithoutFirst.ensures) in
    record {
      steps = λ ps comes. step_without_first old new ps comes next.0 next.1 (turns_are c.args.first.now c.args.second.now comes.firsts comes.seconds turn.WithoutFirst c.in-WithoutFirst.ensures comes.first comes.second)
          c.take-in-WithoutFirst.ensures.is refl;
      fewer = fewer_one c.args.first.now c.take-in-WithoutFirst.new.self next.0 next.1 c.take-in-WithoutFirst.ensures.fewer (left_of c.args.second.now);
    }

pub returns-in-WithoutSecond : goal.returns-in-WithoutSecond
returns-in-WithoutSecond c =
    let old : Walking = sides c.args.first.now c.args.second.now in
    let new : Walking = sides c.args.first.now c.take-in-WithoutSecond.new.self in
    let next = there c.args.second.now (shows_are c.args.first.now c.args.second.now turn.WithoutSecond c.in-WithoutSecond.ensures) in
    record {
      steps = λ ps comes. step_without_second old new ps comes next.0 next.1 (turns_are c.args.first.now c.args.second.now comes.firsts comes.seconds turn.WithoutSecond c.in-WithoutSecond.ensures comes.first comes.second)
          c.take-in-WithoutSecond.ensures.is refl;
      fewer = fewer_other c.args.second.now c.take-in-WithoutSecond.new.self next.0 next.1 c.take-in-WithoutSecond.ensures.fewer (left_of c.args.first.now);
    }
