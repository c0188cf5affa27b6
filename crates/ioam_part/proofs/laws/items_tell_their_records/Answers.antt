use Rattle.ioam_part.proofs.RecordLaws.{item_is}
use Rattle.ioam_part.proofs.laws.items_tell_their_records.Goals as goal

pub returns : goal.returns
returns c = item_is
