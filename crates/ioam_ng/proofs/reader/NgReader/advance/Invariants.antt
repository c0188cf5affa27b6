use Rattle.std.proofs.Common.{length}
use Rattle.ioam_ng.specs.Reader.{Skips}
use Rattle.ioam_ng.proofs.reader.NgReader.advance.Given as goal

-- blocks without a packet were passed so far
abbrev pub invariant-passing : goal.invariant-passing
invariant-passing l = Skips l.initial.self l.self

abbrev pub decreases-passing : goal.decreases-passing
decreases-passing l = length l.self.pending
