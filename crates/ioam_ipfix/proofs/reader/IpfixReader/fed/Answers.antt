use Rattle.std.proofs.Common.{length-drop, ap, arith}
use Rattle.ioam_ipfix.specs.Reading.{Reading, fed}
use Rattle.ioam_ipfix.proofs.reader.IpfixReader.fed.Goals as goal

pub returns : goal.returns
returns c =
    let inside = c.self.inside in
    let all = ap (λ (r : Reading). fed r) c.self.view_is in
    let left = length-drop inside.size inside.octets.pending in
    let fits = c.self.invariant.0 in
    omega (arith, all, left, fits, c.fed.ensures)
