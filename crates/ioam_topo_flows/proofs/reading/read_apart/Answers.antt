use Rattle.std.proofs.Common.{sym, ◌∙◌}
use Rattle.std.proofs.lemmas.Result.{err_from_is_err_and}
use Rattle.toml.specs.View.{table_view}
use Rattle.ioam_topo_entries.proofs.FaultLaws.{gives_same}
use Rattle.ioam_topo_flows.proofs.TableLaws.{flows_keep, extras_behind}
use Rattle.ioam_topo_flows.proofs.reading.read_apart.Goals as goal

pub read_extras-requires-clause-base : goal.read_extras-requires-clause-base
read_extras-requires-clause-base c = flows_keep c.args.nodes.now (table_view c.args.top.now) c.in_ok-found.found c.requires.named c.in_ok-found.ensures.1

pub returns-in_err-more : goal.returns-in_err-more
returns-in_err-more c =
    let p = err_from_is_err_and c.from_residual-in_err-more.result c.from_residual-in_err-more.ensures.1 in
    rw (p.1, p.2) (gives_same c.in_err-more.field-0.0 _ _ _ _
    (extras_behind c.args.nodes.now (table_view c.args.top.now) c.in_ok-found.found c.args.flows c.args.extras c.in_ok-found.ensures.1 c.in_ok-found.ensures.0) c.in_err-more.ensures)

pub returns : goal.returns
returns c = (
  sym (extras_behind c.args.nodes.now (table_view c.args.top.now) c.in_ok-found.found c.args.flows c.args.extras c.in_ok-found.ensures.1 c.in_ok-found.ensures.0)
      ∙ c.in_ok-more.ensures.0,
  (c.in_ok-found.ensures.1, c.in_ok-more.ensures.1),
)
