use Rattle.std.proofs.Common.{◌∙◌}
use Rattle.ioam_data.specs.Kind.{words}
use Rattle.ioam_node_visit.proofs.visit.NodeVisit.put_seen.Goals as goal

pub returns-clause-octets : goal.returns-clause-octets
returns-clause-octets c = c.put_exported.ensures.octets ∙ c.view-view.ensures.element (words c.args.kind)
