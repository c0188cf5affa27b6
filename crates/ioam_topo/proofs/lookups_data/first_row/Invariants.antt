use Rattle.std.proofs.Common.{◌≡◌, drop}
use Rattle.ioam_topo.specs.Finding.{is_data_of}
use Rattle.ioam_topo.specs.Index.{first_place}
use Rattle.ioam_topo.proofs.lookups_data.first_row.Given as goal

abbrev pub invariant-loop-at : goal.invariant-loop-at
invariant-loop-at l = first_place (is_data_of l.node.0 l.namespace.0) l.rows (drop l.at-index l.places) ≡ first_place (is_data_of l.node.0 l.namespace.0) l.rows l.places
