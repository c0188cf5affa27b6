use Rattle.std.proofs.Common.{refl}
use Rattle.ioam_run_stream.proofs.TakingLaws.{closes_so}
use Rattle.ioam_run_stream.proofs.captured.CapturedConverter.close.Goals as goal

pub returns : goal.returns
returns g c = closes_so g.G.Gather.gathers g.G.Gather.count g.G.Gather.width g.G.Gather.fresh g.G.Gather.texts c.args.self.now c.args.self.now c.args.outputs.now c.put_sums.new.outputs (g.G.Gather.sums c.args.self.now.gathered) c.requires.width refl c.in_ok-put_sums.ensures
    (λ begun taken so_far gathered. g.met.G.Gather.ends begun taken so_far c.args.self.now.gathered gathered)
