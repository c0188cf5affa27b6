use Rattle.std.proofs.Common.{ap, refl, ◌∙◌}
use Rattle.std.proofs.lemmas.Result.{err_from_is_err_and}
use Rattle.toml.specs.View.{table_view}
use Rattle.ioam_topo_entries.proofs.FaultLaws.{gives_same}
use Rattle.ioam_topo_entries.proofs.TableLaws.{front_none}
use Rattle.ioam_topo_flows.specs.ExtraTable.{traced}
use Rattle.ioam_topo_flows.proofs.TableLaws.{flows_are}
use Rattle.ioam_topo_flows.proofs.reading.read_flows.Goals as goal

pub returns-in-Ok : goal.returns-in-Ok
returns-in-Ok c = (
  c.in_ok-found.ensures.0,
  flows_are c.args.nodes.now (table_view c.args.top.now) c.args.flows c.in_ok-found.found c.in-Ok.out c.in_ok-found.more c.requires.few_flows c.requires.named
      c.in_ok-found.ensures.1.0 (front_none _ _ c.in_ok-found.ensures.0) c.in_ok-found.ensures.1.1
      (c.in-Ok.ensures.items ∙ ap (traced 0 c.in_ok-found.found.items.items) c.as_slice.ensures.value) c.in-Ok.ensures.names c.in-Ok.ensures.keys,
)

pub returns-in_err-found : goal.returns-in_err-found
returns-in_err-found c =
    let p = err_from_is_err_and c.from_residual.result c.from_residual.ensures.1 in
    rw (p.1, p.2) (gives_same c.in_err-found.field-0.0 _ _ _ _ refl c.in_err-found.ensures)

pub with_extras-requires : goal.with_extras-requires
with_extras-requires c = rw c.as_slice.ensures.value c.in_ok-found.ensures.1.1.within
