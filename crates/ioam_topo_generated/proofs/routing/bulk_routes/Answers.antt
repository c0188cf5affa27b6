use Rattle.std.proofs.Common.{refl, ◌∙◌}
use Rattle.ioam_topo_generated.specs.Bulk.{bulk_routes}
use Rattle.ioam_topo_generated.proofs.EqualLaws.{same_more}
use Rattle.ioam_topo_generated.proofs.routing.bulk_routes.Goals as goal

pub returns : goal.returns
unfolding bulk_routes
returns c = c.in_ok-routes.ensures.items
    ∙ same_more c.last_from.ensures (same_more c.east_from.ensures (same_more c.last_from-2.ensures (same_more c.east_from-2.ensures
    (same_more c.last_from-3.ensures (same_more c.east_from-3.ensures (same_more c.last_from-4.ensures (same_more c.east_from-4.ensures
    (same_more c.east_from-5.ensures refl))))))))
