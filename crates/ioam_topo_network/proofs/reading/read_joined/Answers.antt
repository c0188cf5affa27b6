use Rattle.std.proofs.Common.{refl}
use Rattle.std.proofs.lemmas.Result.{err_from_is_err_and}
use Rattle.ioam_topo_entries.proofs.FaultLaws.{gives_same}
use Rattle.ioam_topo_network.proofs.reading.read_joined.Goals as goal

pub returns-in_err-ports : goal.returns-in_err-ports
returns-in_err-ports c =
    let p = err_from_is_err_and c.from_residual-in_err-ports.result c.from_residual-in_err-ports.ensures.1 in
    rw (p.1, p.2, c.in_ok-links.ensures.0) (gives_same c.in_err-ports.field-0.0 _ _ _ _ refl c.in_err-ports.ensures)
