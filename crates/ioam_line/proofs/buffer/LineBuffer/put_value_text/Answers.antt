use Rattle.std.proofs.Common.{ap, arith}
use Rattle.ioam_line.specs.Given.{value_of}
use Rattle.ioam_line.specs.Line.{value_most}
use Rattle.ioam_line.proofs.HexLaws.{hex-long}
use Rattle.ioam_line.proofs.buffer.LineBuffer.put_value_text.Goals as goal

pub put_hex-requires : goal.put_hex-requires
put_hex-requires g c =
    omega (arith, hex-long c.in-Hex.number c.in-Hex.width, ap (λ v. value_most (value_of v)) c.in-Hex.is, c.requires)
