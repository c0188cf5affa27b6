use Rattle.std.proofs.Common.{rules, refl, ◌≡◌, ◌++◌, [], Ok, map, ap, sym, ◌∙◌, ℕ, Result, codes}
use Rattle.std.proofs.lemmas.Result.{err_from_is_err_and}
use Rattle.std.specs.Str.{bytes_eq}
use Rattle.toml.specs.View.{table_view}
use Rattle.ioam_topo_values.specs.declared.why.Why.{Why}
use Rattle.ioam_topo_values.specs.Reads.{◌▷◌}
use Rattle.ioam_topo_entries.specs.declared.words.Table.TheVariants.{FlowTable}
use Rattle.ioam_topo_entries.specs.Faults.{at, other_key}
use Rattle.ioam_topo_entries.specs.Goods.{fresh}
use Rattle.ioam_topo_entries.specs.Keys.{own_keys}
use Rattle.ioam_topo_entries.specs.Goods.{list_of}
use Rattle.ioam_topo_flows.specs.FlowParts.{flow_space, selection_keys, outer_keys, tracing_keys, exporting_keys}
use Rattle.ioam_topo_flows.specs.FlowTable.{flow_name}
use Rattle.ioam_topo_entries.proofs.FaultLaws.{gives_first, gives_same}
use Rattle.ioam_topo_entries.proofs.GoodsLaws.{fresh_new}
use Rattle.ioam_topo_flows.proofs.FlowLaws.{last_of_six, new_flow}
use Rattle.ioam_topo_flows.proofs.flow_table.read_flow.Goals as goal

pub returns-in_err-selection : goal.returns-in_err-selection
returns-in_err-selection c =
    let a : at FlowTable c.args.place other_key (own_keys FlowTable (table_view c.args.entry.now)) ≡ [] = search rules in
    let b : at FlowTable c.args.place (codes "name") (flow_name (table_view c.args.entry.now) ▷ fresh bytes_eq c.args.flows.now.names) ≡ [] = search rules in
    let p = err_from_is_err_and c.from_residual-in_err-selection.result c.from_residual-in_err-selection.ensures.1 in
    rw (p.1, p.2) (gives_first c.in_err-selection.field-0.0 _ (outer_keys c.args.place (table_view c.args.entry.now) ++ (tracing_keys c.args.place (table_view c.args.entry.now) ++ exporting_keys c.args.place (flow_space c.args.nodes.now.names (map list_of c.args.nodes.now.items.items) (table_view c.args.entry.now)) c.args.flows.now.taken.keys (table_view c.args.entry.now))) _ _ _ (rw (a, b)) c.in_err-selection.ensures)

pub returns-in_err-outer : goal.returns-in_err-outer
returns-in_err-outer c =
    let a : at FlowTable c.args.place other_key (own_keys FlowTable (table_view c.args.entry.now)) ≡ [] = search rules in
    let b : at FlowTable c.args.place (codes "name") (flow_name (table_view c.args.entry.now) ▷ fresh bytes_eq c.args.flows.now.names) ≡ [] = search rules in
    let s : selection_keys c.args.nodes.now.names (map list_of c.args.nodes.now.items.items) c.args.place (table_view c.args.entry.now) ≡ [] = c.in_ok-selection.ensures.0 in
    let p = err_from_is_err_and c.from_residual-in_err-outer.result c.from_residual-in_err-outer.ensures.1 in
    rw (p.1, p.2) (gives_first c.in_err-outer.field-0.0 _ (tracing_keys c.args.place (table_view c.args.entry.now) ++ exporting_keys c.args.place (flow_space c.args.nodes.now.names (map list_of c.args.nodes.now.items.items) (table_view c.args.entry.now)) c.args.flows.now.taken.keys (table_view c.args.entry.now)) _ _ _ (rw (a, b, s)) c.in_err-outer.ensures)

pub returns-in_err-tracing : goal.returns-in_err-tracing
returns-in_err-tracing c =
    let a : at FlowTable c.args.place other_key (own_keys FlowTable (table_view c.args.entry.now)) ≡ [] = search rules in
    let b : at FlowTable c.args.place (codes "name") (flow_name (table_view c.args.entry.now) ▷ fresh bytes_eq c.args.flows.now.names) ≡ [] = search rules in
    let s : selection_keys c.args.nodes.now.names (map list_of c.args.nodes.now.items.items) c.args.place (table_view c.args.entry.now) ≡ [] = c.in_ok-selection.ensures.0 in
    let o : outer_keys c.args.place (table_view c.args.entry.now) ≡ [] = c.in_ok-outer.ensures.0 in
    let p = err_from_is_err_and c.from_residual-in_err-tracing.result c.from_residual-in_err-tracing.ensures.1 in
    rw (p.1, p.2) (gives_first c.in_err-tracing.field-0.0 _ (exporting_keys c.args.place (flow_space c.args.nodes.now.names (map list_of c.args.nodes.now.items.items) (table_view c.args.entry.now)) c.args.flows.now.taken.keys (table_view c.args.entry.now)) _ _ _ (rw (a, b, s, o)) c.in_err-tracing.ensures)

pub returns-in_err-exporting : goal.returns-in_err-exporting
returns-in_err-exporting c =
    let a : at FlowTable c.args.place other_key (own_keys FlowTable (table_view c.args.entry.now)) ≡ [] = search rules in
    let b : at FlowTable c.args.place (codes "name") (flow_name (table_view c.args.entry.now) ▷ fresh bytes_eq c.args.flows.now.names) ≡ [] = search rules in
    let e : exporting_keys c.args.place (flow_space c.args.nodes.now.names (map list_of c.args.nodes.now.items.items) (table_view c.args.entry.now)) c.args.flows.now.taken.keys (table_view c.args.entry.now)
    ≡ exporting_keys c.args.place (Ok c.in_ok-selection.selection.namespace) c.args.flows.now.taken.keys (table_view c.args.entry.now)
    = ap (λ (r : Result ℕ Why). exporting_keys c.args.place r c.args.flows.now.taken.keys (table_view c.args.entry.now)) c.in_ok-selection.ensures.1.1 in
    let p = err_from_is_err_and c.from_residual-in_err-exporting.result c.from_residual-in_err-exporting.ensures.1 in
    rw (p.1, p.2) (gives_same c.in_err-exporting.field-0.0 _ _ _ _
    (sym (last_of_six _ _ _ _ _ _ a b c.in_ok-selection.ensures.0 c.in_ok-outer.ensures.0 c.in_ok-tracing.ensures.0 ∙ e)) c.in_err-exporting.ensures)

pub returns-in-Ok : goal.returns-in-Ok
returns-in-Ok c =
    let a : at FlowTable c.args.place other_key (own_keys FlowTable (table_view c.args.entry.now)) ≡ [] = search rules in
    let b : at FlowTable c.args.place (codes "name") (flow_name (table_view c.args.entry.now) ▷ fresh bytes_eq c.args.flows.now.names) ≡ [] = search rules in
    let e : exporting_keys c.args.place (flow_space c.args.nodes.now.names (map list_of c.args.nodes.now.items.items) (table_view c.args.entry.now)) c.args.flows.now.taken.keys (table_view c.args.entry.now)
    ≡ exporting_keys c.args.place (Ok c.in_ok-selection.selection.namespace) c.args.flows.now.taken.keys (table_view c.args.entry.now)
    = ap (λ (r : Result ℕ Why). exporting_keys c.args.place r c.args.flows.now.taken.keys (table_view c.args.entry.now)) c.in_ok-selection.ensures.1.1 in
    let f : flow_name (table_view c.args.entry.now) ▷ fresh bytes_eq c.args.flows.now.names ≡ Ok c.in_ok-text.text.now = search rules in
    let n : flow_name (table_view c.args.entry.now) ≡ Ok c.in_ok-text.text.now = search rules in (
      last_of_six _ _ _ _ _ _ a b c.in_ok-selection.ensures.0 c.in_ok-outer.ensures.0 c.in_ok-tracing.ensures.0 ∙ (e ∙ c.in_ok-exporting.ensures.0),
      new_flow c.args.nodes.now.names (map list_of c.args.nodes.now.items.items) c.args.flows.now (table_view c.args.entry.now) c.in_ok-text.text.now c.in_ok-text.text.now
          c.in_ok-selection.selection c.in_ok-outer.outer c.in_ok-tracing.tracing c.in_ok-exporting.exporting c.in-Ok.flow
          c.in-Ok.ensures refl n (fresh_new bytes_eq c.args.flows.now.names _ c.in_ok-text.text.now f)
          c.in_ok-selection.ensures.1.0 c.in_ok-selection.ensures.1.1 c.in_ok-outer.ensures.1 c.in_ok-tracing.ensures.1 c.in_ok-exporting.ensures.1,
    )
