use Rattle.std.proofs.Common.{◌≡◌, ◌<◌, [], length}
use Rattle.ioam_ipfix.specs.Reading.{fed, held}
use Rattle.ioam_ipfix.specs.Reader.{GoesOver, Keeps, StaysFaulty}
use Rattle.ioam_ipfix.proofs.reader.IpfixReader.advance.Given as goal

-- messages without a record were taken so far, and then perhaps one with records
abbrev pub invariant-taking : goal.invariant-taking
invariant-taking l = record {
  keeps : Keeps l.initial.self l.self;
  fed : fed l.self ≡ fed l.initial.self;
  held : held l.self ≡ held l.initial.self;
  goes : GoesOver l.initial.self l.self [];
  faulty : StaysFaulty l.initial.self l.self;
  still : 0 < length l.initial.self.due → l.self ≡ l.initial.self;
}

abbrev pub decreases-taking : goal.decreases-taking
decreases-taking l = length l.self.pending
