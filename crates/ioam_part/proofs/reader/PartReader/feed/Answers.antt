use Rattle.std.proofs.Common.{◌++◌}
use Rattle.ioam_part.proofs.ReaderLaws.{keeps_few}
use Rattle.ioam_part.proofs.reader.PartReader.feed.Goals as goal

pub returns-clause-few : goal.returns-clause-few
returns-clause-few c = λ limit octets stands none.
    keeps_few limit (octets ++ c.args.piece.now) c.take_in.new.self (c.in_ok-take_in.ensures.stands limit octets stands) none
