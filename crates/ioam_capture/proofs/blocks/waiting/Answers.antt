use Rattle.std.proofs.Common.{◌≡◌, true, false, Some, None, rules}
use Rattle.ioam_pcap.specs.Ending.{Whole, Faulty}
use Rattle.ioam_capture.specs.Reading.{Ng}
use Rattle.ioam_capture.proofs.DueLaws.{waits-more, waits-end, ng-ends}
use Rattle.ioam_capture.proofs.blocks.waiting.Goals as goal

pub returns-then-not-ended : goal.returns-then-not-ended
returns-then-not-ended c =
    let unended : c.args.ended ≡ false = search rules in
    waits-more (Ng c.args.reader.now) c.args.ended unended c.requires

pub returns-in-None : goal.returns-in-None
returns-in-None c =
    let over : c.args.ended ≡ true = search rules in
    waits-end (Ng c.args.reader.now) c.args.ended None over (ng-ends c.args.reader.now Whole c.in-None.ensures.reads)

pub returns-in-Some : goal.returns-in-Some
returns-in-Some c =
    let over : c.args.ended ≡ true = search rules in
    waits-end (Ng c.args.reader.now) c.args.ended (Some (c.in-Some.at, c.in-Some.fault)) over
    (ng-ends c.args.reader.now (Faulty c.in-Some.at c.in-Some.fault) c.in-Some.ensures.reads)
