use Rattle.std.proofs.Common.{List, Bool, sym, ap, ◌∙◌}
use Rattle.ioam_batch.specs.Crossings.{Crossed, filled, taps_of}
use Rattle.ioam_batch.proofs.CrossingLaws.{taps-all}
use Rattle.ioam_batch.proofs.crossings.Crossings.kept.Goals as goal

pub returns-clause-value : goal.returns-clause-value
returns-clause-value c =
    let i = c.self.inside in
    c.filled.ensures.value
    ∙ ap (λ (ts : List Bool). filled i.size ts) c.deref.ensures.value
    ∙ ap (λ (ts : List Bool). filled i.size ts) (sym (taps-all i.size i.taps.items i.done i.octets.items))
    ∙ ap (λ (v : Crossed). filled v.size (taps_of v)) c.self.view_is
