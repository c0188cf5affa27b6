use Rattle.ioam_ng.proofs.ReadsLaws.{Reads-unique}
use Rattle.ioam_pcap.specs.Ending.{ending_of}
use Rattle.ioam_ng.proofs.reader.NgReader.finish.Goals as goal

pub returns-clause-only : goal.returns-clause-only
returns-clause-only c octets taken stands = λ others end reads.
    Reads-unique octets others taken end (ending_of c.left_over.result) reads (c.left_over.ensures.reads octets taken stands)
