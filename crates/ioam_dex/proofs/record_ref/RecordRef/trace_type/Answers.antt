use Rattle.ioam_dex.specs.RecordRef.{content}
use Rattle.ioam_dex.proofs.RefLaws.{content-rec}
use Rattle.ioam_dex.proofs.record_ref.RecordRef.trace_type.Goals as goal

pub element_in-requires : goal.element_in-requires
element_in-requires c = (content c.args.self.now, content-rec c.args.self.now)

pub returns : goal.returns
returns c = (c.element_in.ensures.says (content c.args.self.now) (content-rec c.args.self.now)).0
