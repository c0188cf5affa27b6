use Rattle.std.proofs.Common.{◌∙◌, ap}
use Rattle.ioam_dex.specs.RecordRef.{content}
use Rattle.ioam_dex.specs.Visit.{visit_where}
use Rattle.ioam_dex.proofs.record_ref.RecordRef.visit.Goals as goal

pub returns : goal.returns
unfolding content
returns c = c.visit_where.ensures ∙ ap (λ there. visit_where there c.args.self.now.octets.now 10) c.has_visit.ensures.version
