use Rattle.std.proofs.Common.{refl}
use Rattle.ioam_capture.proofs.StandsLaws.{Stands-shows}
use Rattle.ioam_stream.specs.Stage.{Handed}
use Rattle.ioam_run_stream.proofs.TakingLaws.{taking_stops}
use Rattle.ioam_run_stream.proofs.captured.CapturedConverter.cut.Goals as goal

pub returns : goal.returns
returns g c = taking_stops g.G.Gather.gathers g.G.Gather.count g.G.Gather.width g.G.Gather.fresh g.G.Gather.texts Handed c.args.self.now c.args.self.now refl refl refl
    (λ octets taken stands. Stands-shows c.args.self.now.reader octets taken stands c.requires.waits)
