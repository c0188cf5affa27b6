use Rattle.std.proofs.Common.{refl, ◌∙◌}
use Rattle.ioam_topo_generated.specs.Bulk.{bulk_nodes}
use Rattle.ioam_topo_generated.proofs.EqualLaws.{same_more}
use Rattle.ioam_topo_generated.proofs.places.bulk_nodes.Goals as goal

pub returns : goal.returns
unfolding bulk_nodes
returns c = c.in_ok-nodes.ensures.items ∙ same_more c.in_ok-one.ensures (same_more c.in_ok-two.ensures (same_more c.in_ok-three.ensures (same_more c.in_ok-four.ensures (same_more c.in_ok-five.ensures refl))))
