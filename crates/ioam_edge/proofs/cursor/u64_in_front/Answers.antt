use Rattle.std.proofs.Common.{◌++◌, ap, ◌∙◌, sym, arith, drop}
use Rattle.ioam_base.specs.Words.{eight_octets}
use Rattle.ioam_base.proofs.WordsLaws.{eight-at}
use Rattle.ioam_edge.proofs.cursor.u64_in_front.Goals as goal

pub returns : goal.returns
returns c = eight-at c.args.octets.now 0 (λ i. omega (arith, c.type_inv.octets i)) (omega arith)
    ∙ ap (λ number. eight_octets number ++ drop 8 c.args.octets.now) (sym c.u64_at.ensures)
