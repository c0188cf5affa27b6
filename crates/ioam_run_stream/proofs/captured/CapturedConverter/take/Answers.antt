use Rattle.std.proofs.Common.{refl}
use Rattle.ioam_run_stream.proofs.TakingLaws.{takes_record, takes_bad, takes_limit}
use Rattle.ioam_run_stream.proofs.captured.CapturedConverter.take.Goals as goal

pub returns-in-Ok-Record-clause-takes : goal.returns-in-Ok-Record-clause-takes
returns-in-Ok-Record-clause-takes g c = takes_record g.G.Gather.gathers g.G.Gather.count g.G.Gather.width g.G.Gather.fresh g.G.Gather.texts c.args.self.now _ c.args.outputs.now c.take_next.new.outputs refl c.requires.width
    (rw c.in-Ok-Record.field-0-is at c.in-Ok-Record.ensures.next)

pub returns-in-Ok-Bad-clause-takes : goal.returns-in-Ok-Bad-clause-takes
returns-in-Ok-Bad-clause-takes g c = takes_bad g.G.Gather.gathers g.G.Gather.count g.G.Gather.width g.G.Gather.fresh g.G.Gather.texts c.args.self.now _ c.args.outputs.now c.take_next.new.outputs refl c.in-Ok-Bad.at c.in-Ok-Bad.fault refl
    (rw c.in-Ok-Bad.field-0-is at c.in-Ok-Bad.ensures.next)

pub returns-in-Ok-Limit-clause-takes : goal.returns-in-Ok-Limit-clause-takes
returns-in-Ok-Limit-clause-takes g c = takes_limit g.G.Gather.gathers g.G.Gather.count g.G.Gather.width g.G.Gather.fresh g.G.Gather.texts c.args.self.now _ c.args.outputs.now c.take_next.new.outputs refl refl
    (rw c.in-Ok-Limit.field-0-is at c.in-Ok-Limit.ensures.next)
