use Rattle.std.proofs.Common.{◌≡◌, [], refl, ap, sym, ◌∙◌, Ok, arith}
use Rattle.std.proofs.lemmas.Result.{err_from_is_err_and}
use Rattle.toml.specs.View.{table_view}
use Rattle.ioam_topo_entries.proofs.FaultLaws.{gives_first, behind, third_of_four, last_of_four, none_of_four}
use Rattle.ioam_topo_network.specs.Places.{part_faults}
use Rattle.ioam_topo_network.proofs.PartsLaws.{routes_same, routes_are}
use Rattle.ioam_topo_network.proofs.SoundLaws.{nodes_kept, links_kept, ports_kept, routes_kept}
use Rattle.ioam_topo_file.proofs.TopLaws.{packets_bounds}
use Rattle.ioam_topo_file.proofs.TelemetryLaws.{data_kept, data_are, flows_are, node_count}
use Rattle.ioam_topo_file.proofs.reading.read_tables.Goals as goal

pub returns-in_err-own-clause-read : goal.returns-in_err-own-clause-read
returns-in_err-own-clause-read c =
    let p = err_from_is_err_and c.from_residual.result c.from_residual.ensures.1 in
    rw (p.1, p.2) (gives_first c.in_err-own.field-0.0 _ _ _ _ _ refl c.in_err-own.ensures)

pub returns-in_err-parts-clause-read : goal.returns-in_err-parts-clause-read
returns-in_err-parts-clause-read c =
    let faults = part_faults 64 (table_view c.args.top.now) in
    let same : faults ≡ faults = refl in
    let p = err_from_is_err_and c.from_residual-in_err-parts.result c.from_residual-in_err-parts.ensures.1 in
    rw (p.1, p.2) (gives_first c.in_err-parts.field-0.0 _ _ _ _ _
    (behind _ _ _ _ c.in_ok-own.ensures.0 same) c.in_err-parts.ensures)

pub returns-in_err-routes-clause-read : goal.returns-in_err-routes-clause-read
returns-in_err-routes-clause-read c =
    let clear : part_faults 64 (table_view c.args.top.now) ≡ [] = c.in_ok-parts.ensures.0 in
    let p = err_from_is_err_and c.from_residual-in_err-routes.result c.from_residual-in_err-routes.ensures.1 in
    rw (p.1, p.2) (gives_first c.in_err-routes.field-0.0 _ _ _ _ _
    (third_of_four _ _ _ _ _ c.in_ok-own.ensures.0 clear (routes_same 64 (table_view c.args.top.now) c.in_ok-parts.parts c.in_ok-parts.ensures.1))
    c.in_err-routes.ensures)

pub returns-in_err-telemetry-clause-read : goal.returns-in_err-telemetry-clause-read
returns-in_err-telemetry-clause-read c =
    let clear : part_faults 64 (table_view c.args.top.now) ≡ [] = c.in_ok-parts.ensures.0 in
    let p = err_from_is_err_and c.from_residual-in_err-telemetry.result c.from_residual-in_err-telemetry.ensures.1 in
    rw (p.1, p.2) (gives_first c.in_err-telemetry.field-0.0 _ _ _ _ _
    (last_of_four _ _ _ _ _ c.in_ok-own.ensures.0 clear c.in_ok-routes.ensures.0
    (routes_same 64 (table_view c.args.top.now) c.in_ok-parts.parts c.in_ok-parts.ensures.1))
    c.in_err-telemetry.ensures)

pub returns-in-Ok-clause-read : goal.returns-in-Ok-clause-read
returns-in-Ok-clause-read c =
    let clear : part_faults 64 (table_view c.args.top.now) ≡ [] = c.in_ok-parts.ensures.0 in (
      none_of_four _ _ _ _ _ c.in_ok-own.ensures.0 clear c.in_ok-routes.ensures.0
          (routes_same 64 (table_view c.args.top.now) c.in_ok-parts.parts c.in_ok-parts.ensures.1) c.in_ok-telemetry.ensures.0,
      record {
        format = c.in_ok-own.ensures.1.0 ∙ ap Ok (sym c.in-Ok.ensures.format);
        packets = c.in_ok-own.ensures.1.1 ∙ ap Ok (sym c.in-Ok.ensures.packets);
        has_nodes = c.in-Ok.ensures.nodes ∙ c.in_ok-parts.ensures.1.nodes.items;
        has_links = c.in-Ok.ensures.links ∙ c.in_ok-parts.ensures.1.links.items;
        has_ports = c.in-Ok.ensures.ports ∙ c.in_ok-parts.ensures.1.ports.items;
        has_routes = c.in-Ok.ensures.routes ∙ routes_are 64 (table_view c.args.top.now) c.in_ok-parts.parts c.in_ok-routes.routes c.in_ok-parts.ensures.1 c.in_ok-routes.ensures.1;
        has_data = c.in-Ok.ensures.data ∙ data_are (table_view c.args.top.now) c.in_ok-parts.parts.nodes c.in_ok-telemetry.telemetry c.in_ok-parts.ensures.1.nodes c.in_ok-telemetry.ensures.1;
        has_flows = c.in-Ok.ensures.flows ∙ flows_are (table_view c.args.top.now) c.in_ok-parts.parts.nodes c.in_ok-telemetry.telemetry c.in_ok-parts.ensures.1.nodes c.in_ok-telemetry.ensures.1;
      },
    )

pub returns-in-Ok-clause-apart : goal.returns-in-Ok-clause-apart
returns-in-Ok-clause-apart c = record {
  nodes_apart = c.in-Ok.domain.sound_nodes.apart;
  flows_apart = c.in-Ok.domain.sound_flows.apart;
  known = c.in-Ok.domain.sound_flows.known;
}

pub read_telemetry-requires-clause-named : goal.read_telemetry-requires-clause-named
read_telemetry-requires-clause-named c = node_count 64 (table_view c.args.top.now) c.in_ok-parts.parts c.in_ok-parts.ensures.1

pub domain_of-requires-clause-packets_some : goal.domain_of-requires-clause-packets_some
domain_of-requires-clause-packets_some c = (packets_bounds (table_view c.args.top.now) c.in_ok-own.own.packets c.in_ok-own.ensures.1.1).0

pub domain_of-requires-clause-packets_most : goal.domain_of-requires-clause-packets_most
domain_of-requires-clause-packets_most c = (packets_bounds (table_view c.args.top.now) c.in_ok-own.own.packets c.in_ok-own.ensures.1.1).1

pub domain_of-requires-clause-nodes_kept : goal.domain_of-requires-clause-nodes_kept
domain_of-requires-clause-nodes_kept c = nodes_kept 64 (table_view c.args.top.now) c.in_ok-parts.parts c.in_ok-parts.ensures.1 c.in_ok-parts.ensures.0

pub domain_of-requires-clause-links_kept : goal.domain_of-requires-clause-links_kept
domain_of-requires-clause-links_kept c = links_kept 64 (table_view c.args.top.now) c.in_ok-parts.parts c.in_ok-parts.ensures.1 c.in_ok-parts.ensures.0 (omega arith)

pub domain_of-requires-clause-ports_kept : goal.domain_of-requires-clause-ports_kept
domain_of-requires-clause-ports_kept c = ports_kept 64 (table_view c.args.top.now) c.in_ok-parts.parts c.in_ok-parts.ensures.1 c.in_ok-parts.ensures.0

pub domain_of-requires-clause-routes_kept : goal.domain_of-requires-clause-routes_kept
domain_of-requires-clause-routes_kept c = routes_kept 64 (table_view c.args.top.now) c.in_ok-parts.parts c.in_ok-parts.ensures.1 c.in_ok-parts.ensures.0
    c.in_ok-routes.routes c.in_ok-routes.ensures.1 c.in_ok-routes.ensures.0

pub domain_of-requires-clause-data_kept : goal.domain_of-requires-clause-data_kept
domain_of-requires-clause-data_kept c = data_kept 64 (table_view c.args.top.now) c.in_ok-parts.parts c.in_ok-parts.ensures.1
    c.in_ok-telemetry.telemetry c.in_ok-telemetry.ensures.1 c.in_ok-telemetry.ensures.0

pub domain_of-requires-clause-flows_kept : goal.domain_of-requires-clause-flows_kept
domain_of-requires-clause-flows_kept c = c.in_ok-telemetry.ensures.1.flows.kept
