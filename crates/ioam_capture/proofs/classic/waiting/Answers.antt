use Rattle.std.proofs.Common.{◌≡◌, true, false, Some, None, rules}
use Rattle.ioam_pcap.specs.Ending.{Whole, Faulty}
use Rattle.ioam_capture.specs.Reading.{Classic}
use Rattle.ioam_capture.proofs.DueLaws.{waits-more, waits-end, classic-ends}
use Rattle.ioam_capture.proofs.classic.waiting.Goals as goal

pub returns-then-not-ended-clause-due : goal.returns-then-not-ended-clause-due
returns-then-not-ended-clause-due c =
    let unended : c.args.ended ≡ false = search rules in
    waits-more (Classic c.args.reader.now) c.args.ended unended c.requires

pub returns-in-None-clause-due : goal.returns-in-None-clause-due
returns-in-None-clause-due c =
    let over : c.args.ended ≡ true = search rules in
    waits-end (Classic c.args.reader.now) c.args.ended None over (classic-ends c.args.reader.now Whole c.in-None.ensures.reads)

pub returns-in-Some-clause-due : goal.returns-in-Some-clause-due
returns-in-Some-clause-due c =
    let over : c.args.ended ≡ true = search rules in
    waits-end (Classic c.args.reader.now) c.args.ended (Some (c.in-Some.at, c.in-Some.fault)) over
    (classic-ends c.args.reader.now (Faulty c.in-Some.at c.in-Some.fault) c.in-Some.ensures.reads)
