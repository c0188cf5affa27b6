use Rattle.std.proofs.Common.{◌++◌, ap, ◌∙◌, sym, arith, drop}
use Rattle.ioam_base.specs.Words.{two_octets}
use Rattle.ioam_base.proofs.WordsLaws.{two-at}
use Rattle.ioam_edge.proofs.cursor.u16_in_front.Goals as goal

pub returns : goal.returns
returns c = two-at c.args.octets.now 0 (λ i. omega (arith, c.type_inv.octets i)) (omega arith)
    ∙ ap (λ number. two_octets number ++ drop 2 c.args.octets.now) (sym c.u16_at.ensures)
