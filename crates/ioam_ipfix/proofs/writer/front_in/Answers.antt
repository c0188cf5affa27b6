use Rattle.std.proofs.Common.{length, ap, arith}
use Rattle.ioam_ipfix.proofs.RunLaws.{front-small}
use Rattle.ioam_ipfix.proofs.writer.front_in.Goals as goal

pub returns : goal.returns
returns c = λ x whole.
    let element = ap length (c.element_in-kind_and_element.ensures.says x whole).1 in
    let size = ap length whole.is in
    omega (arith, element, size, front-small x)
