use Rattle.std.proofs.Common.{arith}
use Rattle.ioam_run_traffic.proofs.RunsLaws.{runs_few}
use Rattle.ioam_run_traffic.proofs.StepsLaws.{standing_closing, standing_ready, takes_sums}
use Rattle.ioam_run_traffic.proofs.stage.Traffic.close.Goals as goal

pub tell-requires : goal.tell-requires
tell-requires g c =
    let (opens, standing) = c.requires.stands in
    let runs = standing_closing opens _ _ c.args.self.now standing c.requires.closing in
    record {
      set = (opens, (standing_ready opens _ _ c.args.self.now standing).set);
      of = runs.forwards.of;
      few = omega (arith, runs_few opens c.args.self.now.terms standing.stands.taken standing.so_far c.args.self.now.progress.gathered runs, c.args.self.now.terms.domain.now.packets_most);
      width = c.requires.width;
    }

pub put_sums-requires : goal.put_sums-requires
put_sums-requires g c =
    let (opens, standing) = c.requires.stands in
    let tells = c.in_ok-tell.ensures opens (standing_ready opens _ _ c.args.self.now standing).set in
    record { none = tells.none; width = omega (arith, c.requires.width, c.tell.auto.outputs) }

pub returns : goal.returns
returns g c = λ opens standing.
    let tells = c.in_ok-tell.ensures opens (standing_ready opens _ _ c.args.self.now standing).set in
    takes_sums opens _ _ c.args.self.now c.args.outputs.now c.tell.new.outputs _ c.tell.new.gathered c.requires.closing tells c.in_ok-put_sums.ensures.adds
    (λ frames so_far. c.in_ok-put_sums.ensures.whole opens _ frames so_far)
