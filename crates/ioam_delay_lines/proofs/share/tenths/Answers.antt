use Rattle.std.proofs.Common.{◌+◌, ◌*◌, arith}
use Rattle.std.proofs.lemmas.Nat.{div_below}
use Rattle.ioam_delay_lines.proofs.share.tenths.Goals as goal

pub overflow_cast-result : goal.overflow_cast-result
overflow_cast-result c =
    omega (
      arith,
      div_below (2000 * c.args.part + c.args.whole) (2 * c.args.whole) 1001 (omega (arith, c.requires.some))
          (omega (arith, c.requires.some, c.requires.within)),
    )
