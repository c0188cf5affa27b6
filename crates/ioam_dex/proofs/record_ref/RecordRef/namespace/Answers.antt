use Rattle.ioam_dex.specs.RecordRef.{content}
use Rattle.ioam_dex.proofs.record_ref.RecordRef.namespace.Goals as goal

pub returns : goal.returns
unfolding content
returns c = c.u16_at.ensures
