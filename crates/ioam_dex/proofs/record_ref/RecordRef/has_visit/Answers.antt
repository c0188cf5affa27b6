use Rattle.std.proofs.Common.{◌∙◌, slice_index, sym}
use Rattle.ioam_dex.specs.RecordRef.{content}
use Rattle.ioam_dex.specs.Visit.{has_visit}
use Rattle.ioam_dex.proofs.RefLaws.{visit_where-is_some}
use Rattle.ioam_dex.proofs.record_ref.RecordRef.has_visit.Goals as goal

pub returns-clause-visit : goal.returns-clause-visit
unfolding content
returns-clause-visit c =
    let octets = c.args.self.now.octets.now in
    c.has_visit.ensures ∙ sym (visit_where-is_some (has_visit (slice_index octets 0)) octets 10)
