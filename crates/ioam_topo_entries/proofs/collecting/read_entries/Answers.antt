use Rattle.std.proofs.Common.{◌≡◌, ◌∙◌, ap, sym, map, Ok, Err, refl}
use Rattle.std.proofs.lemmas.Result.{err_from_is_err_and}
use Rattle.toml.specs.Data.{get_member}
use Rattle.toml.specs.View.{table_view}
use Rattle.ioam_topo_values.specs.Entries.{rows}
use Rattle.ioam_topo_entries.proofs.RowLaws.{rows_read, rows_refused, rows_taken}
use Rattle.ioam_topo_entries.proofs.collecting.read_entries.Goals as goal

pub returns : goal.returns
returns g c =
    let read : rows c.args.most (get_member c.args.key.now (table_view c.args.top.now)) ≡ Ok (map (λ t. table_view t.now) c.in_ok-found.found.items) =
    rows_read (λ v. map (λ t. table_view t.now) v.items) c.args.table 0 c.rows.result (Ok c.in_ok-found.found) _ c.in_ok-found.found
    c.rows.ensures c.in_ok-found.ensures refl in
    rows_taken c.args.table c.args.most (get_member c.args.key.now (table_view c.args.top.now)) (g.T.Collects.faults c.args.before.now)
    (g.T.Collects.Holds c.args.before.now) (map (λ t. table_view t.now) c.as_slice.result.now) c.collect.result
    (read ∙ ap (λ l. Ok (map (λ t. table_view t.now) l)) (sym c.as_slice.ensures.value)) c.collect.ensures

pub returns-in_err-found : goal.returns-in_err-found
returns-in_err-found g c =
    let p = err_from_is_err_and c.from_residual.result c.from_residual.ensures.1 in
    rw (p.1, p.2) (rows_refused c.args.table c.args.most (get_member c.args.key.now (table_view c.args.top.now)) (g.T.Collects.faults c.args.before.now)
    (λ v. map (λ t. table_view t.now) v.items) 0 _ c.rows.result (Err c.in_err-found.field-0.0) c.in_err-found.field-0.0 refl
    c.rows.ensures c.in_err-found.ensures refl)
