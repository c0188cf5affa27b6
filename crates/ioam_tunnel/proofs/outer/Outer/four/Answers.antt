use Rattle.std.proofs.Common.{◌/◌, ◌%◌, ap, ◌∙◌}
use Rattle.ioam_base.specs.Words.{two_octets}
use Rattle.ioam_tunnel.specs.Outer.{Writing, more}
use Rattle.ioam_tunnel.proofs.OuterLaws.{four_pair, more_twice}
use Rattle.ioam_tunnel.proofs.outer.Outer.four.Goals as goal

pub returns-clause-value : goal.returns-clause-value
returns-clause-value c =
    let old = c.args.self.now in
    let number = c.args.number in
    c.two-2.ensures.value
    ∙ ap (λ (w : Writing). more w (two_octets (number % 65536))) c.two.ensures.value
    ∙ more_twice old (two_octets (number / 65536)) (two_octets (number % 65536))
    ∙ ap (λ xs. more old xs) (four_pair number)
