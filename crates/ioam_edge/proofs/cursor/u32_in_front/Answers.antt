use Rattle.std.proofs.Common.{◌++◌, ap, ◌∙◌, sym, arith, drop}
use Rattle.ioam_base.specs.Words.{four_octets}
use Rattle.ioam_base.proofs.WordsLaws.{four-at}
use Rattle.ioam_edge.proofs.cursor.u32_in_front.Goals as goal

pub returns : goal.returns
returns c = four-at c.args.octets.now 0 (λ i. omega (arith, c.type_inv.octets i)) (omega arith)
    ∙ ap (λ number. four_octets number ++ drop 4 c.args.octets.now) (sym c.u32_at.ensures)
