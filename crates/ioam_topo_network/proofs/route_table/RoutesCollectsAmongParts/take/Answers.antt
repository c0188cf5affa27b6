use Rattle.std.proofs.Common.{sym, ◌∙◌}
use Rattle.std.proofs.lemmas.Result.{err_from_is_err_and}
use Rattle.toml.specs.View.{table_view}
use Rattle.ioam_topo_entries.proofs.FaultLaws.{gives_same}
use Rattle.ioam_topo_network.proofs.RouteLaws.{held_faults, route_added}
use Rattle.ioam_topo_network.proofs.route_table.RoutesCollectsAmongParts.take.Goals as goal

pub returns-in_err-route : goal.returns-in_err-route
returns-in_err-route c = λ earlier holds there.
    let p = err_from_is_err_and c.from_residual.result c.from_residual.ensures.1 in
    rw (p.1, p.2) (gives_same c.in_err-route.field-0.0 _ _ _ _
    (held_faults c.args.before.now.parts.now earlier c.args.self.now c.args.place (table_view c.args.entry.now) holds there) c.in_err-route.ensures)

pub returns-in-Ok : goal.returns-in-Ok
returns-in-Ok c = λ earlier holds there. (
  sym (held_faults c.args.before.now.parts.now earlier c.args.self.now c.args.place (table_view c.args.entry.now) holds there) ∙ c.in_ok-route.ensures.0,
  route_added c.args.before.now.parts.now earlier (table_view c.args.entry.now) c.in_ok-route.route c.args.self.now c.add.new.self holds c.in_ok-route.ensures.1
      c.in-Ok.ensures.items c.in-Ok.ensures.keys,
)
