use Rattle.ioam_dex.specs.Reader.{ending_of}
use Rattle.ioam_dex.proofs.ReadsLaws.{Reads-unique}
use Rattle.ioam_dex.proofs.reader.ExportReader.finish.Goals as goal

pub returns-clause-only : goal.returns-clause-only
returns-clause-only c = λ octets records stands others other reads.
    Reads-unique octets others records other (ending_of c.left_over.result) reads (c.left_over.ensures.reads octets records stands)
