use Rattle.std.proofs.Common.{sym, subst}
use Rattle.ioam_part.specs.Reading.{PartReading, IsReadAs}
use Rattle.ioam_part.proofs.reader.PartReader.finish.Goals as goal

pub returns-in-None : goal.returns-in-None
returns-in-None c = λ limit octets stands.
    subst (λ (q : PartReading). IsReadAs limit octets q.progress.collector) (sym c.self.view_is) (c.in-None.ensures limit octets stands)
