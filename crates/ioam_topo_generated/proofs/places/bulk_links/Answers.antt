use Rattle.std.proofs.Common.{refl, ◌∙◌}
use Rattle.ioam_topo_generated.specs.Bulk.{bulk_links}
use Rattle.ioam_topo_generated.proofs.EqualLaws.{same_more}
use Rattle.ioam_topo_generated.proofs.places.bulk_links.Goals as goal

pub returns : goal.returns
unfolding bulk_links
returns c = c.in_ok-links.ensures.items ∙ same_more c.in_ok-one.ensures (same_more c.in_ok-two.ensures (same_more c.in_ok-three.ensures (same_more c.in_ok-four.ensures refl)))
