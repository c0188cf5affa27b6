use Rattle.ioam_capture.proofs.ReadsLaws.{Reads-unique}
use Rattle.ioam_capture.proofs.reader.Reader.finish.Goals as goal

pub returns-clause-only : goal.returns-clause-only
returns-clause-only c octets taken stands others end reads = Reads-unique octets others taken end _ reads (c.left_over.ensures octets taken stands)
