use Rattle.std.proofs.Common.{refl, ◌∙◌}
use Rattle.ioam_topo_generated.proofs.EqualLaws.{same_more}
use Rattle.ioam_topo_generated.proofs.flow.bulk_flows.Goals as goal

pub returns : goal.returns
returns c = c.in_ok-flows.ensures.items ∙ same_more c.in_ok-flow.ensures refl
