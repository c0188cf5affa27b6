use Rattle.std.proofs.Common.{refl, ◌∙◌}
use Rattle.ioam_topo_generated.specs.Bulk.{bulk_ports}
use Rattle.ioam_topo_generated.proofs.EqualLaws.{same_more}
use Rattle.ioam_topo_generated.proofs.places.bulk_ports.Goals as goal

pub returns : goal.returns
unfolding bulk_ports
returns c = c.in_ok-ports.ensures.items ∙ same_more c.in_ok-west.ensures (same_more c.in_ok-east.ensures refl)
