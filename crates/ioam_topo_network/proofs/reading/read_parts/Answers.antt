use Rattle.std.proofs.Common.{◌∙◌, sym}
use Rattle.std.proofs.lemmas.Result.{err_from_is_err_and}
use Rattle.ioam_topo_entries.proofs.FaultLaws.{gives_same}
use Rattle.ioam_topo_network.proofs.PartsLaws.{joined_same, links_hold, ports_hold}
use Rattle.toml.specs.View.{table_view}
use Rattle.ioam_topo_network.proofs.reading.read_parts.Goals as goal

pub returns-in_err-links : goal.returns-in_err-links
returns-in_err-links c =
    let p = err_from_is_err_and c.from_residual-in_err-links.result c.from_residual-in_err-links.ensures.1 in
    rw (p.1, p.2) (gives_same c.in_err-links.field-0.0 _ _ _ _
    (joined_same c.args.taps (table_view c.args.top.now) c.in_ok-nodes.nodes c.in_ok-nodes.ensures.1 c.in_ok-nodes.ensures.0) c.in_err-links.ensures)

pub returns : goal.returns
returns c = (
  sym (joined_same c.args.taps (table_view c.args.top.now) c.in_ok-nodes.nodes c.in_ok-nodes.ensures.1 c.in_ok-nodes.ensures.0) ∙ c.in_ok-links.ensures.0,
  record {
    nodes = c.in_ok-nodes.ensures.1;
    links = links_hold c.args.taps (table_view c.args.top.now) c.in_ok-nodes.nodes c.in_ok-links.links c.in_ok-nodes.ensures.1 c.in_ok-links.ensures.1.0;
    ports = ports_hold (table_view c.args.top.now) c.in_ok-nodes.nodes c.in_ok-links.ports c.in_ok-nodes.ensures.1 c.in_ok-links.ensures.1.1;
  },
)
