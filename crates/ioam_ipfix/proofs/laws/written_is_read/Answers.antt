use Rattle.std.proofs.Common.{[], ◌∷◌}
use Rattle.ioam_ipfix.specs.Reads.{Whole}
use Rattle.ioam_ipfix.specs.Written.{runs_of, messages_text}
use Rattle.ioam_ipfix.proofs.ReadsLaws.{Reads-unique}
use Rattle.ioam_ipfix.proofs.WrittenLaws.{written-read}
use Rattle.ioam_ipfix.proofs.laws.written_is_read.Goals as goal

pub returns-clause-reads : goal.returns-clause-reads
returns-clause-reads c = written-read

pub returns-clause-only : goal.returns-clause-only
returns-clause-only c = λ runs are others other also.
    Reads-unique (messages_text runs) others ([] ∷ runs_of runs) other Whole also (written-read runs are)
