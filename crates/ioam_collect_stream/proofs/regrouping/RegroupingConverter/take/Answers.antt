use Rattle.std.proofs.Common.{refl}
use Rattle.ioam_collect_stream.proofs.RegroupingLaws.{needs_more, takes_past, takes_bad}
use Rattle.ioam_collect_stream.proofs.regrouping.RegroupingConverter.take.Goals as goal

pub returns-in-More-clause-takes : goal.returns-in-More-clause-takes
returns-in-More-clause-takes g c = needs_more g.T.Report.tells g.T.Report.rest g.T.Report.left g.T.Report.most c.args.self.now c.take_shown.new.reader c.in-Some.collector _ c.in-Some.is
    _ c.args._outputs.now refl refl refl (rw c.in-More.is at c.in_ok-take_shown.ensures.shown)

pub returns-in-Bad-clause-takes : goal.returns-in-Bad-clause-takes
returns-in-Bad-clause-takes g c = takes_bad g.T.Report.tells g.T.Report.rest g.T.Report.left g.T.Report.most c.args.self.now c.take_shown.new.reader c.in-Some.collector _ c.in-Some.is
    _ c.args._outputs.now refl refl c.in-Bad.at c.in-Bad.fault refl c.in_ok-take_shown.ensures.fewer (rw c.in-Bad.is at c.in_ok-take_shown.ensures.shown)

pub returns-in-Limit-clause-takes : goal.returns-in-Limit-clause-takes
returns-in-Limit-clause-takes g c = takes_past g.T.Report.tells g.T.Report.rest g.T.Report.left g.T.Report.most c.args.self.now c.take_shown.new.reader c.in-Some.collector _ c.in-Some.is
    _ c.args._outputs.now refl refl c.in-Limit.limit refl c.in_ok-take_shown.ensures.fewer (rw c.in-Limit.is at c.in_ok-take_shown.ensures.shown)
