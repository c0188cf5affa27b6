use Rattle.std.proofs.Common.{◌∙◌, ap}
use Rattle.ioam_dex.specs.Faults.{said}
use Rattle.ioam_dex.specs.RecordRef.{content}
use Rattle.ioam_dex.proofs.record_ref.RecordRef.export.Goals as goal

pub returns : goal.returns
unfolding content
returns c = c.with_element.ensures ∙ ap (said c.head.result) c.element.ensures ∙ c.head.ensures.says
