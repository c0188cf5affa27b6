use Rattle.std.proofs.Common.{[], refl, arith}
use Rattle.ioam_run_answer.proofs.CallLaws.{OnOk_both}
use Rattle.ioam_collect_stream.proofs.RegroupingLaws.{fed_few, is_there, refills}
use Rattle.ioam_collect_stream.proofs.regrouping.RegroupingConverter.feed.Goals as goal

pub feed-requires-2 : goal.feed-requires-2
feed-requires-2 g c =
    let there = is_there c.args.self.now.collector _ c.requires.stands.stands.gathers in
    omega (arith, c.requires.few, fed_few g.T.Report.tells g.T.Report.rest g.T.Report.left g.T.Report.most c.args.self.now c.args.self.now.reader there.0 there.0 there.1 c.requires.stands c.requires.waits)

pub returns : goal.returns
returns g c =
    let there = is_there c.args.self.now.collector _ c.requires.stands.stands.gathers in
    OnOk_both c.feed-2.result _ _ _ c.feed-2.ensures.ok c.feed-2.ensures.stands
    (λ is stands. refills g.T.Report.tells g.T.Report.rest g.T.Report.left g.T.Report.most c.args.self.now c.feed-2.new.self there.0 there.0 there.1 _ [] refl there.1
    c.args.octets.now c.requires.some
    (omega (arith, c.requires.few, fed_few g.T.Report.tells g.T.Report.rest g.T.Report.left g.T.Report.most c.args.self.now c.args.self.now.reader there.0 there.0 there.1 c.requires.stands c.requires.waits))
    is stands refl refl)
