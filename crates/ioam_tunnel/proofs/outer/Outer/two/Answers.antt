use Rattle.std.proofs.Common.{ap, ◌∙◌, arith}
use Rattle.ioam_tunnel.specs.Outer.{more}
use Rattle.ioam_tunnel.proofs.OuterLaws.{two_pair}
use Rattle.ioam_tunnel.proofs.outer.Outer.two.Goals as goal

pub returns-clause-value : goal.returns-clause-value
returns-clause-value c = c.pair.ensures.value ∙ ap (λ xs. more c.args.self.now xs) (two_pair c.args.number (omega arith))
