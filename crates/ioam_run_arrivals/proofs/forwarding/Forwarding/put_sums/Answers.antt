use Rattle.std.proofs.Common.{refl}
use Rattle.ioam_run_texts.proofs.AddsLaws.{report-told}
use Rattle.ioam_run_arrivals.proofs.ForwardsLaws.{Forwards-ends}
use Rattle.ioam_run_arrivals.proofs.forwarding.Forwarding.put_sums.Goals as goal

pub returns-clause-adds : goal.returns-clause-adds
returns-clause-adds c = report-told c.args.domain.now c.args.outputs.now c.index-outputs-report.result _ _ _ (c.place_of_report-report.ensures.place c.args.domain.now c.requires.width) c.requires.width
    refl c.in_ok-put_sums.ensures.text

pub returns-clause-whole : goal.returns-clause-whole
returns-clause-whole c = Forwards-ends c.args.domain.now c.args.self.now c.requires.none c.put_sums.ensures.arrivals
