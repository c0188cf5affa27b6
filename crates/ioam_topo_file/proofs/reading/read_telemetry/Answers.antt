use Rattle.std.proofs.Common.{sym}
use Rattle.std.proofs.lemmas.Result.{err_from_is_err_and}
use Rattle.toml.specs.View.{table_view}
use Rattle.ioam_topo_entries.proofs.FaultLaws.{gives_first, gives_same}
use Rattle.ioam_topo_flows.specs.DataTable.{data_entries}
use Rattle.ioam_topo_flows.proofs.DataKept.{data_sound}
use Rattle.ioam_topo_file.proofs.TelemetryLaws.{telemetry_same, telemetry_holds, behind_none, none_of_two}
use Rattle.ioam_topo_file.proofs.reading.read_telemetry.Goals as goal

pub returns-in_err-rows : goal.returns-in_err-rows
returns-in_err-rows c =
    let p = err_from_is_err_and c.from_residual.result c.from_residual.ensures.1 in
    rw (p.1, p.2) (gives_first c.in_err-rows.field-0.0 _ _ _ _ _ (sym (telemetry_same (table_view c.args.top.now) c.args.nodes.now c.requires.holds)) c.in_err-rows.ensures)

pub returns-in_err-flows : goal.returns-in_err-flows
returns-in_err-flows c =
    let p = err_from_is_err_and c.from_residual-in_err-flows.result c.from_residual-in_err-flows.ensures.1 in
    rw (p.1, p.2) (gives_same c.in_err-flows.field-0.0 _ _ _ _ (behind_none _ _ _ c.in_ok-rows.ensures.0
    (telemetry_same (table_view c.args.top.now) c.args.nodes.now c.requires.holds)) c.in_err-flows.ensures)

pub new-requires-clause-sound_data : goal.new-requires-clause-sound_data
new-requires-clause-sound_data c = data_sound c.args.nodes.now.names (data_entries (table_view c.args.top.now)) c.in_ok-rows.rows.items.items c.in_ok-rows.ensures.1.items

pub returns : goal.returns
returns c = (
  none_of_two _ _ _ c.in_ok-rows.ensures.0 c.in_ok-flows.ensures.0
      (telemetry_same (table_view c.args.top.now) c.args.nodes.now c.requires.holds),
  telemetry_holds (table_view c.args.top.now) c.args.nodes.now c.new.result c.in_ok-rows.rows c.in_ok-flows.flows c.new.ensures.rows c.new.ensures.flows
      c.in_ok-rows.ensures.1 c.in_ok-flows.ensures.1,
)
