use Rattle.std.proofs.Common.{arith, rules}
use Rattle.ioam_run_arrivals.specs.Forwarding.{NoneWaits}
use Rattle.ioam_run_traffic.proofs.RunsLaws.{runs_few, waiting_one}
use Rattle.ioam_run_traffic.proofs.StepsLaws.{standing_lacks, standing_ready, takes_late}
use Rattle.ioam_run_traffic.proofs.stage.Traffic.wait.Goals as goal

pub tell-requires : goal.tell-requires
tell-requires g c =
    let (opens, standing) = c.requires.stands in
    let (short, runs) = standing_lacks opens _ _ c.args.self.now standing c.args.input c.requires.waiting in
    record {
      set = (opens, (standing_ready opens _ _ c.args.self.now standing).set);
      of = runs.forwards.of;
      few = omega (arith, runs_few opens c.args.self.now.terms standing.stands.taken standing.so_far c.args.self.now.progress.gathered runs, c.args.self.now.terms.domain.now.packets_most);
      width = c.requires.width;
    }

pub returns : goal.returns
returns g c = λ opens standing.
    let some : NoneWaits c.args.self.now.progress.gathered → ⊥ = search rules in
    takes_late opens _ _ c.args.self.now c.args.input c.requires.waiting c.args.outputs.now _ c.tell.new.gathered
    (c.in_ok-tell.ensures opens (standing_ready opens _ _ c.args.self.now standing).set) (waiting_one c.args.self.now.progress.gathered.batch.jobs some)
