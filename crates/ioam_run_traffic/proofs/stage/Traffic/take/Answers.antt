use Rattle.std.proofs.Common.{arith, refl}
use Rattle.ioam_run_traffic.proofs.RunsLaws.{runs_few}
use Rattle.ioam_run_traffic.proofs.StepsLaws.{standing_ready, standing_taking, takes_full, takes_short, takes_stopped}
use Rattle.ioam_run_traffic.proofs.stage.Traffic.take.Goals as goal

pub take_shown-requires : goal.take_shown-requires
take_shown-requires g c =
    let (opens, standing) = c.requires.stands in
    record {
      taking = (opens, standing.seen, standing.stands.taken, standing.so_far, standing_taking opens _ _ c.args.self.now standing c.requires.taking);
      inside = (standing_ready opens _ _ c.args.self.now standing).inside;
    }

pub tell-requires : goal.tell-requires
tell-requires g c =
    let (opens, standing) = c.requires.stands in
    let paused = rw c.in-Ok-Full.field-0-is at c.in-Ok-Full.ensures.paused in
    let (now, ((merging, runs), full)) = paused opens standing.seen standing.stands.taken standing.so_far (standing_taking opens _ _ c.args.self.now standing c.requires.taking) in
    record {
      set = (opens, (standing_ready opens _ _ c.args.self.now standing).set);
      of = runs.forwards.of;
      few = omega (arith, runs_few opens c.args.self.now.terms now standing.so_far c.take_shown.new.self.gathered runs, c.args.self.now.terms.domain.now.packets_most);
      width = c.requires.width;
    }

pub returns-in_ok-tell-in-Ok-Full : goal.returns-in_ok-tell-in-Ok-Full
returns-in_ok-tell-in-Ok-Full g c = λ opens standing.
    let paused = rw c.in-Ok-Full.field-0-is at c.in-Ok-Full.ensures.paused in
    let (now, ((merging, runs), full)) = paused opens standing.seen standing.stands.taken standing.so_far (standing_taking opens _ _ c.args.self.now standing c.requires.taking) in
    takes_full opens _ _ c.args.self.now c.take_shown.new.self c.args.outputs.now _ c.in-Ok-Full.ensures.left c.in-Ok-Full.ensures.room _ c.requires.taking
    (c.in_ok-tell-in-Ok-Full.ensures opens (standing_ready opens _ _ c.args.self.now standing).set) full (λ seen taken so_far. paused opens seen taken so_far)

pub returns-in-Ok-Short : goal.returns-in-Ok-Short
returns-in-Ok-Short g c = λ opens standing.
    let paused = rw c.in-Ok-Short.field-0-is at c.in-Ok-Short.ensures.paused in
    takes_short opens _ _ c.args.self.now c.take_shown.new.self c.args.outputs.now _ c.in-Ok-Short.ensures.left c.in-Ok-Short.ensures.room c.in-Ok-Short.input c.requires.width c.requires.taking refl
    (λ seen taken so_far. paused opens seen taken so_far)

pub returns-in-Ok-Stopped : goal.returns-in-Ok-Stopped
returns-in-Ok-Stopped g c = λ opens standing.
    let paused = rw c.in-Ok-Stopped.field-0-is at c.in-Ok-Stopped.ensures.paused in
    takes_stopped opens _ _ c.args.self.now c.take_shown.new.self c.args.outputs.now _ c.in-Ok-Stopped.ensures.left c.in-Ok-Stopped.ensures.room c.in-Ok-Stopped.halt c.requires.width c.requires.taking refl
    (λ seen taken so_far. paused opens seen taken so_far)
