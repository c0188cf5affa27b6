use Rattle.ioam_collect.proofs.FiledLaws.{is_of}
use Rattle.ioam_collect.proofs.store.Store.add.Goals as goal

pub returns-clause-is_of : goal.returns-clause-is_of
returns-clause-is_of c = is_of _ _ _ _ _ c.add_one.ensures
