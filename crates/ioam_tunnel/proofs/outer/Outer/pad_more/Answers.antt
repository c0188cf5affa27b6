use Rattle.std.proofs.Common.{◌-◌, [], ◌∷◌, replicate, ap, ◌∙◌}
use Rattle.ioam_tunnel.specs.Outer.{Writing, more}
use Rattle.ioam_tunnel.proofs.OuterLaws.{pad_long, more_twice}
use Rattle.ioam_tunnel.proofs.outer.Outer.pad_more.Goals as goal

pub returns-clause-value : goal.returns-clause-value
returns-clause-value c =
    let old = c.args.self.now in
    let count = c.args.count in
    c.skip.ensures.value
    ∙ ap (λ (w : Writing). more w (replicate (count - 2) 0)) c.pair.ensures.value
    ∙ more_twice old (1 ∷ (count - 2) ∷ []) (replicate (count - 2) 0)
    ∙ ap (λ xs. more old xs) (pad_long count c.requires.some)
