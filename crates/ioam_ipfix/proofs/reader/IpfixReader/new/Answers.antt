use Rattle.std.proofs.Common.{[], rules, subst}
use Rattle.ioam_ipfix.specs.Reading.{Reading}
use Rattle.ioam_ipfix.specs.Reader.{Stands}
use Rattle.ioam_ipfix.proofs.ReaderLaws.{Stands-fresh}
use Rattle.ioam_ipfix.proofs.reader.IpfixReader.new.Goals as goal

pub returns-clause-stands : goal.returns-clause-stands
returns-clause-stands c = let Q : Reading → Type 0 = λ r. Stands r [] [] in subst Q (search rules) Stands-fresh
