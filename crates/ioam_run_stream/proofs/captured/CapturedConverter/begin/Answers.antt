use Rattle.std.proofs.Common.{◌∙◌}
use Rattle.std.proofs.lemmas.Result.{on_ok_weaker}
use Rattle.ioam_run_stream.proofs.TakingLaws.{adds_sized, begun_taking}
use Rattle.ioam_run_stream.proofs.captured.CapturedConverter.begin.Goals as goal

pub returns-clause-opens : goal.returns-clause-opens
returns-clause-opens g c = on_ok_weaker c.begin.result
    (λ adds. (
      g.G.Gather.heads,
      adds,
      λ fresh. begun_taking g.G.Gather.gathers g.G.Gather.count g.G.Gather.width g.G.Gather.fresh g.G.Gather.texts c.args.self.now g.G.Gather.heads
          (adds_sized c.args.outputs.now c.begin.new.outputs g.G.Gather.heads adds ∙ c.requires.width)
          (g.met.G.Gather.begins c.args.self.now.gathered fresh.gathered) (g.met.G.Gather.none c.args.self.now.gathered fresh.gathered) fresh,
    ))
    c.begin.ensures.adds
