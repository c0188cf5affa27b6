use Rattle.std.proofs.Common.{ap, ◌∙◌}
use Rattle.ioam_topo.specs.Domain.{node_data}
use Rattle.ioam_topo.specs.Finding.{is_data_of}
use Rattle.ioam_topo.specs.Index.{first_place}
use Rattle.ioam_topo.proofs.IndexLaws.{row_is}
use Rattle.ioam_topo.proofs.domain.Domain.place_of_data.Goals as goal

pub returns-then-own-le-FEW-clause-value : goal.returns-then-own-le-FEW-clause-value
returns-then-own-le-FEW-clause-value c = row_is (node_data c.args.self.now) c.data.result.now c.rows_at-own.result.now c.args.node.0 c.args.namespace.0 _
    c.data.ensures.value c.rows_at-own.ensures c.first_row.ensures.value
