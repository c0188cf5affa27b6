use Rattle.ioam_pcap.specs.Ending.{ending_of}
use Rattle.ioam_pcap.specs.Reader.{link_of}
use Rattle.ioam_pcap.proofs.ReadsLaws.{Reads-unique}
use Rattle.ioam_pcap.proofs.reader.CaptureReader.finish.Goals as goal

pub returns-clause-only : goal.returns-clause-only
returns-clause-only c = λ octets entries stands other others end reads.
    Reads-unique octets other (link_of c.args.self.now) others entries end (ending_of c.left_over.result) reads (c.left_over.ensures.reads octets entries stands)
