use Rattle.std.proofs.Common.{refl, sym, subst}
use Rattle.ioam_pcap.specs.Ending.{ending_of}
use Rattle.ioam_stream.specs.Stage.{Ended}
use Rattle.ioam_run_stream.specs.Captured.{AreOf}
use Rattle.ioam_run_stream.specs.declared.captured.End.{End}
use Rattle.ioam_run_stream.proofs.TakingLaws.{ends_of, taking_stops}
use Rattle.ioam_run_stream.proofs.captured.CapturedConverter.finish.Goals as goal

pub returns : goal.returns
returns g c = taking_stops g.G.Gather.gathers g.G.Gather.count g.G.Gather.width g.G.Gather.fresh g.G.Gather.texts Ended c.args.self.now _ refl refl refl
    (λ octets taken stands. subst (λ (e : End). AreOf c.args.self.now.limit Ended e taken octets) (sym c.end_of-self.ensures)
    (ends_of c.args.self.now.limit (ending_of c.finish.result) taken octets (c.finish.ensures.reads octets taken stands)))
